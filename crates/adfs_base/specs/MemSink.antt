-- A sink in memory, and what each of its puts answers.
use Rattle.std.specs.Prelude.{ℕ, ◌-◌, ◌&&◌, not, nat_le, Bool, min, length, take, List, ◌++◌, if◌then◌else◌}
use Rattle.adfs_base.specs.Counts.{counted, is_listed}
use Rattle.adfs_base.specs.declared.sink.Put.{Put}
use Rattle.adfs_base.specs.declared.sink.Put.TheVariants as put

-- its bytes, the numbers of the puts that fail, how many bytes of its piece such a put takes, the room for
-- all bytes, how many puts there were, and how many failed
pub record SinkState : Type 0 where
  pub held : List ℕ
  pub failing : List ℕ
  pub keep : ℕ
  pub room : ℕ
  pub puts : ℕ
  pub faults : ℕ

-- the room that is left
abbrev pub room_left : SinkState → ℕ
room_left sink = sink.room - length sink.held

-- how many bytes of a piece a put takes, by whether it is among those that fail
abbrev pub taken : SinkState → Bool → List ℕ → ℕ
taken sink fails piece = min (length piece) (if fails then min sink.keep (room_left sink) else room_left sink)

abbrev pub put_by : SinkState → Bool → List ℕ → Put × SinkState
put_by sink fails piece =
    if not fails && nat_le (length piece) (room_left sink)
    then (put.All, record sink { held = sink.held ++ piece; puts = counted sink.puts })
    else (put.Failed, record sink { held = sink.held ++ take (taken sink fails piece) piece; puts = counted sink.puts; faults = counted sink.faults })

-- what a put answers, and the sink after it
abbrev pub put_of : SinkState → List ℕ → Put × SinkState
put_of sink piece = put_by sink (is_listed (counted sink.puts) sink.failing) piece
