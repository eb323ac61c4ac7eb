pub mod PresentStages
