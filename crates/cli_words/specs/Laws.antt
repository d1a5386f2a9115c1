-- What it is to be the first word with which no command line goes on.
use Rattle.std.specs.Prelude.{◌≡◌, ℕ, ◌+◌, ◌<◌, ◌≤◌, List, ◌++◌, length, take, Err, IsOk}
use Rattle.cli_words.specs.Form.{options_of}

pub record IsFirstRefused (words : List (List ℕ)) (place : ℕ) : Type 0 where
  pub within : place ≤ length words
  -- whatever follows the word at this place, it is no command line
  pub ends_there : place < length words → (more : List (List ℕ)) → options_of (take (place + 1) words ++ more) ≡ Err place
  -- some words make a command line of those before it
  pub goes_on_before : (more : List (List ℕ)) × IsOk (options_of (take place words ++ more))

abbrev pub RefusalsComeFirst : Type 0
RefusalsComeFirst = (words : List (List ℕ)) (place : ℕ) → options_of words ≡ Err place → IsFirstRefused words place
