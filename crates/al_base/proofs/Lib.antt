mod Copies
pub mod CutLemmas
pub mod Days
pub mod FormTests
pub mod StampText
pub mod TextTests
pub mod TypeNames
