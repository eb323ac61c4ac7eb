pub mod WrittenLaws
pub mod Closed
pub mod Unfolding
pub mod FormMeaning
pub mod SameShape
pub mod SameRank
pub mod SameKind
pub mod CanonLaws
