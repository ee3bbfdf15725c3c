pub mod StateCallLaws
