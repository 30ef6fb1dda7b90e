use Rattle.std.proofs.Common.{map, ◌∙◌, inr, sym, ap, subst, List, ℕ, ◌-◌, length, drop, arith}
use Rattle.std.specs.Prelude.{slice_get}
use Rattle.std.proofs.lemmas.List.{take_all, length-drop}
use Rattle.std.proofs.lemmas.Bool.{true_from_ne_false, true≢false, not_from_false}
use Rattle.sled_log.specs.Digest.{digest}
use Rattle.sled_log.specs.Tear.{EndsAt}
use Rattle.files_once.proofs.Whole.{begins_with, gate_whole}
use Rattle.files_once.proofs.mending.is_torn.Goals as goal

pub returns-clause-no : goal.returns-clause-no
returns-clause-no c false_is =
    let bytes : List ℕ = c.args.bytes.now in
    let gate = c.in-Ok.log.gate in
    let payloads = map (λ p. p.now) c.in-Ok.log.payloads.items in
    let first = begins_with (λ p. p.now) c.in-Ok.log.payloads.items c.in-Some.payload.now (c.in-Some.ensures.value ∙ ap (λ l. slice_get l 0) c.deref.ensures.value) in
    let last = sym (take_all (length bytes - gate) (drop gate bytes) (omega (arith, length-drop gate bytes))) ∙ c.is_gate.ensures (true_from_ne_false c.is_gate.result (λ is. true≢false (sym (not_from_false c.is_gate.result is) ∙ false_is))) in
    inr (gate_whole bytes gate (record { payload = c.in-Some.payload.now.now; others = drop 1 payloads; read = c.in-Ok.ensures.read ∙ first; begins = c.is_headed.ensures.begins c.if-not-is_headed.false; same = c.is_headed.ensures.same c.if-not-is_headed.false })
    (subst (λ (ps : List (List ℕ)). EndsAt digest bytes ps gate) (sym c.in-Ok.ensures.read) c.in-Ok.ensures.ends) last)
