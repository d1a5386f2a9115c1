-- The buffers and credits that a worker holds, counted by whose they are and where they stand.
use Rattle.std.specs.Prelude.{ℕ, ◌+◌, Bool, ◌&&◌, ◌==◌, if◌then◌else◌, List, [], ◌∷◌, Option, Some, None}
use Rattle.match_context.specs.declared.frame.Frame.{Frame}
use Rattle.match_context.specs.declared.frame.Rest.{Rest}
use Rattle.match_context.specs.declared.frame.Rest.TheVariants as rest
use Rattle.match_context.specs.declared.message.Message.{Message}
use Rattle.match_context.specs.Bags.{total}
use Rattle.dfs_worker.specs.declared.hand.Hand.{Hand}
use Rattle.dfs_worker.specs.declared.hand.Hand.TheVariants.{Free, Charged, Posted, Popped, Emptied}
use Rattle.dfs_worker.specs.State.{State}

-- How much a buffer counts where it stands, by sender, stage, target and home; and a credit whose buffer is in its
-- pool, by sender, stage and target.
pub record Census : Type 0 where
  pub opened : ℕ → ℕ → ℕ → ℕ → ℕ
  pub charged : ℕ → ℕ → ℕ → ℕ
  pub posted : ℕ → ℕ → ℕ → ℕ → ℕ
  pub popped : ℕ → ℕ → ℕ → ℕ → ℕ
  pub framed : ℕ → ℕ → ℕ → ℕ → ℕ
  pub emptied : ℕ → ℕ → ℕ → ℕ

abbrev pub of_message : (ℕ → ℕ → ℕ → ℕ → ℕ) → Message → ℕ
of_message number message = number message.from message.stage message.to message.items.home

abbrev pub of_slot : (ℕ → ℕ → ℕ → ℕ → ℕ) → Option Message → ℕ
of_slot number None = 0
of_slot number (Some message) = of_message number message

abbrev pub of_rest : (ℕ → ℕ → ℕ → ℕ → ℕ) → Rest → ℕ
of_rest number rest.None = 0
of_rest number (rest.Roots next end) = 0
of_rest number (rest.Items message next over) = of_message number message

abbrev pub of_stack : (ℕ → ℕ → ℕ → ℕ → ℕ) → List Frame → ℕ
of_stack number [] = 0
of_stack number (frame ∷ frames) = of_rest number frame.rest + of_stack number frames

abbrev pub of_hand : Census → ℕ → Hand → ℕ
of_hand census machine Free = 0
of_hand census machine (Charged stage to) = census.charged machine stage to
of_hand census machine (Posted message) = of_message census.posted message
of_hand census machine (Popped message) = of_message census.popped message
of_hand census machine (Emptied from stage) = census.emptied from stage machine

abbrev pub count : Census → State → ℕ
count census worker =
    total (of_slot census.opened) worker.slots.messages + of_hand census worker.machine worker.hand
    + of_stack census.framed worker.stack

-- ---- what is counted
abbrev pub one : Bool → ℕ
one test = if test then 1 else 0

-- whether two words of credits are the same one
abbrev pub is_word : ℕ → ℕ → ℕ → ℕ → ℕ → ℕ → Bool
is_word from stage to from' stage' to' = (from' == from) && ((stage' == stage) && (to' == to))

-- the credits of a word that the worker holds: its open buffers and a charged hand, for its own machine as sender;
-- its message frames and an emptied hand, for its own machine as target
abbrev pub credits_of : ℕ → ℕ → ℕ → Census
credits_of from stage to =
    record {
      opened = λ m k n home. one (is_word from stage to m k n);
      charged = λ m k n. one (is_word from stage to m k n);
      posted = λ m k n home. 0;
      popped = λ m k n home. 0;
      framed = λ m k n home. one (is_word from stage to m k n);
      emptied = λ m k n. one (is_word from stage to m k n);
    }

-- the messages of a word that are on their way, in the worker's hand
abbrev pub flying_of : ℕ → ℕ → ℕ → Census
flying_of from stage to =
    record {
      opened = λ m k n home. 0;
      charged = λ m k n. 0;
      posted = λ m k n home. one (is_word from stage to m k n);
      popped = λ m k n home. one (is_word from stage to m k n);
      framed = λ m k n home. 0;
      emptied = λ m k n. 0;
    }

-- the buffers of a machine that the worker holds
abbrev pub buffers_of : ℕ → Census
buffers_of machine =
    record {
      opened = λ m k n home. one (home == machine);
      charged = λ m k n. 0;
      posted = λ m k n home. one (home == machine);
      popped = λ m k n home. one (home == machine);
      framed = λ m k n home. one (home == machine);
      emptied = λ m k n. 0;
    }
