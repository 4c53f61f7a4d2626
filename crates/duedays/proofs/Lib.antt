-- Laws of closed days and due days.
pub mod Lists
pub mod DueDays
