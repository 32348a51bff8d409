pub mod AlarmFields
pub mod Finding
pub mod Marks
pub mod OutputTexts
pub mod Pages
pub mod PatternTexts
mod Worked
