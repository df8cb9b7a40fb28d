pub mod Held
pub mod JournalFiles
pub mod Copies
pub mod Sessions
pub mod HeldObjects
pub mod SeenObjects
pub mod SessionObjects
