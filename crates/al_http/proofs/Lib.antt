mod EscapeLemmas
mod FindLemmas
pub mod FrontLaws
mod FrontLemmas
mod LineLemmas
mod MemberLemmas
mod MethodLemmas
mod PhraseLemmas
mod RequestLemmas
mod RowLemmas
mod ScanLemmas
mod StreamLemmas
pub mod StreamLaws
