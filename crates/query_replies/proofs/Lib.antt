pub mod Growing
pub mod One
pub mod Steps
pub mod VerdictFacts
