pub mod OpeningForm
