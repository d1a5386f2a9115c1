pub mod PlainStart
