pub mod NeverDone
