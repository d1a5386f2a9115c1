-- The view of a seat after each kind of step.
-- Each function takes the view before, the step's word and the number that it found there.
use Rattle.std.specs.Prelude.{◌≡◌, ℕ, [], ◌∷◌, ◌+◌, ◌-◌, ◌/◌, ◌==◌, ◌<◌, ◌≤◌, nat_lt, nat_le, if◌then◌else◌}
use Rattle.atomic_table.specs.Table.{Me, Step}
use Rattle.stage_credits.specs.Layout.{units, cursor_of, roots_of, limit_at}
use Rattle.stage_credits.specs.Lists.{without}
use Rattle.stage_credits.specs.declared.view.View.{View}
use Rattle.stage_credits.specs.declared.view.Way.{Way}
use Rattle.stage_credits.specs.declared.view.Way.TheVariants.{Load, Fetch, Held, Failed}

abbrev pub with_note : Way → View → ℕ → ℕ → View
with_note way v word found = record v { trail = (record { word = word; found = found; way = way }) ∷ v.trail }

abbrev pub after_look : View → ℕ → ℕ → View
after_look = with_note Load

-- an exchange that found another number than the one expected
abbrev pub after_miss : View → ℕ → ℕ → View
after_miss = with_note Failed

-- one unit more is open
abbrev pub after_charge : View → ℕ → ℕ → View
after_charge v word found = record (with_note Held v word found) { open_units = word ∷ v.open_units }

-- the message is under way, and its unit open no more
abbrev pub after_post : View → ℕ → ℕ → View
after_post v word found = record (with_note Fetch v word found) { open_units = without (word - units v.setup) v.open_units }

-- the message was taken, and its unit is in work
abbrev pub after_pick : View → ℕ → ℕ → View
after_pick v word found = record (with_note Held v word found) { work_units = (word - units v.setup) ∷ v.work_units }

abbrev pub after_discharge : View → ℕ → ℕ → View
after_discharge v word found = record (with_note Fetch v word found) { work_units = without word v.work_units }

-- the view saw the end of a machine's roots
abbrev pub after_end : ℕ → View → ℕ → ℕ → View
after_end machine v word found = record (after_look v word found) { ended = machine ∷ v.ended }

-- the roots from the number found up to this end are the view's
abbrev pub after_claim : ℕ → ℕ → View → ℕ → ℕ → View
after_claim machine end v word found = record (with_note Held v word found) { chunks = (record { machine = machine; first = found; end = end }) ∷ v.chunks }

-- the worker is enrolled no longer
abbrev pub after_retire : View → ℕ → ℕ → View
after_retire v word found = record (with_note Fetch v word found) { enrolled = [] }

-- the word was seen at 0
abbrev pub after_mark : View → ℕ → ℕ → View
after_mark v word found = record (after_look v word found) { marks = word ∷ v.marks }

-- `closed` was seen to have risen, so the marks are dropped
abbrev pub after_rise : View → ℕ → ℕ → View
after_rise v word found = record (after_look v word found) { closed = found; marks = [] }

-- one stage more is closed, and the marks are dropped
abbrev pub after_close : View → ℕ → ℕ → View
after_close v word found = record (with_note Held v word found) { closed = found + 1; marks = [] }

-- what an exchange leaves: of what it does where it holds, the number expected, and the number found
abbrev pub after_exchange : (View → ℕ → ℕ → View) → View → ℕ → ℕ → ℕ → View
after_exchange held v word expected found = if found == expected then held v word found else after_miss v word found

-- A load of a cursor, of a word that may be marked, and of `closed`: what it does depends on what it finds. A cursor tells its machine
abbrev pub machine_at : View → ℕ → ℕ
machine_at v word = (word - cursor_of v.setup 0) / 8

abbrev pub after_seek : View → ℕ → ℕ → View
after_seek v word found = if nat_le (roots_of v.setup (machine_at v word)) found then after_end (machine_at v word) v word found else after_look v word found

abbrev pub after_check : View → ℕ → ℕ → View
after_check v word found = if found == 0 then after_mark v word found else after_look v word found

abbrev pub after_sight : View → ℕ → ℕ → View
after_sight v word found = if nat_lt v.closed found then after_rise v word found else after_look v word found

-- what the rule tells of a number that was found in a `used` word
abbrev pub IsWithinLimit : View → ℕ → ℕ → Type 0
IsWithinLimit v word found = word < units v.setup → found ≤ limit_at v.setup word

abbrev pub LooksAt : Step ℕ → Me ℕ View → ℕ → Me ℕ View → Type 0
LooksAt s me found after = (after ≡ (after_look me.0 s.word found, me.1)) × IsWithinLimit me.0 s.word found

abbrev pub ChargesAt : Step ℕ → Me ℕ View → ℕ → Me ℕ View → Type 0
ChargesAt s me found after = after ≡ (after_exchange after_charge me.0 s.word s.first found, me.1)

abbrev pub PostsAt : Step ℕ → Me ℕ View → ℕ → Me ℕ View → Type 0
PostsAt s me found after = after ≡ (after_post me.0 s.word found, me.1)

abbrev pub PicksAt : Step ℕ → Me ℕ View → ℕ → Me ℕ View → Type 0
PicksAt s me found after = after ≡ (after_exchange after_pick me.0 s.word s.first found, me.1)

abbrev pub DischargesAt : Step ℕ → Me ℕ View → ℕ → Me ℕ View → Type 0
DischargesAt s me found after = after ≡ (after_discharge me.0 s.word found, me.1)

abbrev pub SeeksAt : Step ℕ → Me ℕ View → ℕ → Me ℕ View → Type 0
SeeksAt s me found after = (after ≡ (after_seek me.0 s.word found, me.1)) × (found ≤ roots_of me.0.setup (machine_at me.0 s.word))

abbrev pub ClaimsAt : Step ℕ → Me ℕ View → ℕ → Me ℕ View → Type 0
ClaimsAt s me found after = after ≡ (after_exchange (after_claim (machine_at me.0 s.word) s.second) me.0 s.word s.first found, me.1)

abbrev pub RetiresAt : Step ℕ → Me ℕ View → ℕ → Me ℕ View → Type 0
RetiresAt s me found after = after ≡ (after_retire me.0 s.word found, me.1)

abbrev pub ChecksAt : Step ℕ → Me ℕ View → ℕ → Me ℕ View → Type 0
ChecksAt s me found after = after ≡ (after_check me.0 s.word found, me.1)

-- `closed` is at most the number of stages, which is at most 26, and no less than what the view saw
abbrev pub SeesAt : Step ℕ → Me ℕ View → ℕ → Me ℕ View → Type 0
SeesAt s me found after = (after ≡ (after_sight me.0 s.word found, me.1)) × (me.0.closed ≤ found) × (found ≤ me.0.setup.shape.stages) × (found ≤ 26)

abbrev pub ClosesAt : Step ℕ → Me ℕ View → ℕ → Me ℕ View → Type 0
ClosesAt s me found after = (after ≡ (after_exchange after_close me.0 s.word s.first found, me.1)) × (me.0.closed ≤ found)
