-- the formula of an entry, and when two entries are the same formula
pub mod Form
pub mod Written
-- how an entry's formula is made of its operands'
pub mod Binding
pub mod WrittenLaws
pub mod Closed
pub mod Unfolding
-- meaning, rank and kind go by the formula
pub mod FormMeaning
pub mod SameShape
-- a number for each formula
pub mod Canon
pub mod CanonLaws
-- computed
pub mod WrittenSamples
