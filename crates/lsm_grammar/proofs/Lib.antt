pub mod BenchmarkLaws
pub mod GrammarLaws
pub mod HelpLaws
pub mod HelpLines
