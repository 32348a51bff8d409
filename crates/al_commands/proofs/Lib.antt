mod Asking
mod Digits
mod Drilling
mod Keeping
mod Lines
mod Numbers
mod Rows
mod Texts
