-- presenting, stage by stage, and its promise
pub mod PresentStep
pub mod PresentCall
