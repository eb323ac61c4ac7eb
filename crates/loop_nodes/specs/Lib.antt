pub mod FocusLaws
