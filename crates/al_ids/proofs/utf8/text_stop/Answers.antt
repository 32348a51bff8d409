use Rattle.std.proofs.Common.{◌≡◌, sym, ap, ◌∙◌, drop}
use Rattle.std.specs.Str.{IsValidUpTo}
use Rattle.std.specs.Str.Lossy.{utf8_error_len}
use Rattle.al_ids.proofs.TextStopLemmas.{fault_stop, byte_stop}
use Rattle.al_ids.proofs.utf8.text_stop.Goals as goal

pub returns-then-not-begins_character : goal.returns-then-not-begins_character
returns-then-not-begins_character c =
    let at = c.valid_up_to-valid.ensures in
    let valid : IsValidUpTo c.args.bytes.now c.valid_up_to-valid.result = rw at c.in-Err.ensures.cases.1 in
    byte_stop c.args.bytes.now c.valid_up_to-valid.result valid (sym c.begins_character.ensures ∙ c.if-not-begins_character.true)

pub returns-in-Some : goal.returns-in-Some
returns-in-Some c =
    let at = c.valid_up_to-valid.ensures in
    let valid : IsValidUpTo c.args.bytes.now c.valid_up_to-valid.result = rw at c.in-Err.ensures.cases.1 in
    let told : c.error_len.result ≡ utf8_error_len (drop c.valid_up_to-valid.result c.args.bytes.now) = c.error_len.ensures ∙ c.in-Err.ensures.fault ∙ ap (λ n. utf8_error_len (drop n c.args.bytes.now)) (sym at) in
    rw c.in-Some.is at (fault_stop c.args.bytes.now c.valid_up_to-valid.result c.error_len.result valid (sym c.begins_character.ensures ∙ c.if-not-begins_character.false) told)

pub returns-in-None : goal.returns-in-None
returns-in-None c =
    let at = c.valid_up_to-valid.ensures in
    let valid : IsValidUpTo c.args.bytes.now c.valid_up_to-valid.result = rw at c.in-Err.ensures.cases.1 in
    let told : c.error_len.result ≡ utf8_error_len (drop c.valid_up_to-valid.result c.args.bytes.now) = c.error_len.ensures ∙ c.in-Err.ensures.fault ∙ ap (λ n. utf8_error_len (drop n c.args.bytes.now)) (sym at) in
    rw c.in-None.is at (fault_stop c.args.bytes.now c.valid_up_to-valid.result c.error_len.result valid (sym c.begins_character.ensures ∙ c.if-not-begins_character.false) told)
