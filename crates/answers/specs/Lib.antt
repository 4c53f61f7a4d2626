-- Lines that go out: answers and notices.
pub mod Answers
pub mod Notices
