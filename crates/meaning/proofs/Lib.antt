pub mod FixSettles
pub mod FixLaws
pub mod OwnLaws
pub mod KindMeaning
pub mod SameModels
