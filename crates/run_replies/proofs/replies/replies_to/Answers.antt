use Rattle.std.proofs.Common.{map, refl}
use Rattle.std.specs.String.{string_bytes}
use Rattle.run_replies.specs.Outcome.{work_of}
use Rattle.run_replies.specs.Words.{accepted}
use Rattle.cli_words.specs.declared.options.Options.{Options}
use Rattle.run_replies.proofs.Places.{place_of_words, words_nowhere}
use Rattle.run_replies.proofs.Steps.{words_cause, words_fail_told, words_go_on_told}
use Rattle.run_replies.proofs.WordFacts.{before_by, passed_by, words_before, words_gave}
use Rattle.run_replies.proofs.replies.replies_to.Goals as goal

pub returns-in-Ok-clause-gives : goal.returns-in-Ok-clause-gives
returns-in-Ok-clause-gives g c =
    words_go_on_told (g.S.Store.files c.args.store.now) (accepted (map string_bytes c.args.words.now)) c.in-Ok.options (λ told options. work_of told options) c.replies_of.result
    c.in-Ok.ensures.gives c.replies_of.ensures.gives

pub returns-in-Ok-clause-words : goal.returns-in-Ok-clause-words
returns-in-Ok-clause-words g c =
    passed_by c.replies_of.result (accepted (map string_bytes c.args.words.now)) (rw c.in-Ok.ensures.gives refl) c.replies_of.ensures.reads.status

pub returns-in-Ok-clause-cause : goal.returns-in-Ok-clause-cause
returns-in-Ok-clause-cause g c = c.replies_of.ensures.reads.cause

pub returns-in-Ok-clause-status : goal.returns-in-Ok-clause-status
returns-in-Ok-clause-status g c = before_by c.replies_of.result c.replies_of.ensures.reads.status

pub returns-in-Ok-clause-place : goal.returns-in-Ok-clause-place
returns-in-Ok-clause-place g c =
    place_of_words (accepted (map string_bytes c.args.words.now)) c.in-Ok.options (g.S.Store.files c.args.store.now) c.replies_of.result c.in-Ok.ensures.gives c.replies_of.ensures.reads.place

pub returns-in-Ok-clause-kept : goal.returns-in-Ok-clause-kept
returns-in-Ok-clause-kept g c = c.replies_of.ensures.reads.kept

pub returns-in-Err-clause-gives : goal.returns-in-Err-clause-gives
returns-in-Err-clause-gives g c =
    words_fail_told (λ (options : Options). options) (g.S.Store.files c.args.store.now) c.in-Err.status (accepted (map string_bytes c.args.words.now)) (λ told options. work_of told options) c.in-Err.ensures.gives

pub returns-in-Err-clause-words : goal.returns-in-Err-clause-words
returns-in-Err-clause-words g c = words_gave c.in-Err.status (accepted (map string_bytes c.args.words.now)) c.in-Err.ensures.status c.in-Err.ensures.gives

pub returns-in-Err-clause-cause : goal.returns-in-Err-clause-cause
returns-in-Err-clause-cause g c = words_cause c.in-Err.status _ _ _ _ _ c.in-Err.ensures.status

pub returns-in-Err-clause-status : goal.returns-in-Err-clause-status
returns-in-Err-clause-status g c = words_before c.in-Err.status c.in-Err.ensures.status

pub returns-in-Err-clause-place : goal.returns-in-Err-clause-place
returns-in-Err-clause-place g c = words_nowhere _ c.in-Err.status c.in-Err.ensures.status
