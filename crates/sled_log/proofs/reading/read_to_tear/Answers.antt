use Rattle.std.proofs.Common.{◌≡◌, ◌+◌, ◌<◌, ◌^◌, ◌++◌, [], ◌∷◌, map, Bor, length, drop, sym, subst, ◌∙◌, ap, arith, List, ℕ}
use Rattle.std.specs.Prelude.{Ok, Some, option_map}
use Rattle.std.proofs.lemmas.List.{take_rest, map-append}
use Rattle.sled_log.specs.Digest.{digest}
use Rattle.sled_log.specs.Log.{next_of}
use Rattle.sled_log.specs.Tear.{HasNoBlock}
use Rattle.sled_log.proofs.ReadingLemmas.{AreBytes, IsFront, digest_small, front_more, front_ends}
use Rattle.sled_log.proofs.Tearing.{none_is, fault_is, ends_read}
use Rattle.sled_log.proofs.reading.read_to_tear.Goals as goal

-- a closed gate ends the log
at_close : (c : goal.In-Ok-None) → HasNoBlock digest (drop c.blocks-2.at c.args.bytes.now)
at_close c =
    none_is digest (next_of digest (drop c.blocks-2.at c.args.bytes.now))
    (ap (λ (l : List ℕ). next_of digest l) (sym (take_rest c.args.bytes.now c.blocks-2.at))
    ∙ c.in-Ok-None.ensures.next
    ∙ ap (λ o. Ok (option_map (λ p. p.now) o)) c.in-Ok-None.field-0-is)

-- and so does a fault
at_fault : (c : goal.In-Err) → HasNoBlock digest (drop c.blocks-2.at c.args.bytes.now)
at_fault c =
    fault_is digest (next_of digest (drop c.blocks-2.at c.args.bytes.now)) c.in-Err.field-0
    (ap (λ (l : List ℕ). next_of digest l) (sym (take_rest c.args.bytes.now c.blocks-2.at)) ∙ c.in-Err.ensures.fault)

pub returns-in-Ok-None-clause-ends : goal.returns-in-Ok-None-clause-ends
returns-in-Ok-None-clause-ends c = front_ends c.blocks-2.invariant (at_close c)

pub returns-in-Ok-None-clause-read : goal.returns-in-Ok-None-clause-read
returns-in-Ok-None-clause-read c = ends_read digest digest_small (front_ends c.blocks-2.invariant (at_close c))

pub returns-in-Err-clause-ends : goal.returns-in-Err-clause-ends
returns-in-Err-clause-ends c = front_ends c.blocks-2.invariant (at_fault c)

pub returns-in-Err-clause-read : goal.returns-in-Err-clause-read
returns-in-Err-clause-read c = ends_read digest digest_small (front_ends c.blocks-2.invariant (at_fault c))

pub blocks-2-preserved : goal.blocks-2-preserved
blocks-2-preserved c =
    let next : next_of digest (drop c.blocks-2.at c.args.bytes.now) ≡ Ok (Some c.in-Ok-Some.payload.now) =
    ap (λ (l : List ℕ). next_of digest l) (sym (take_rest c.args.bytes.now c.blocks-2.at))
    ∙ c.in-Ok-Some.ensures.next
    ∙ ap (λ o. Ok (option_map (λ p. p.now) o)) c.in-Ok-Some.field-0-is in
    let small : AreBytes c.args.bytes.now = λ i. omega (arith, c.type_inv.bytes i) in
    let few : length c.args.bytes.now < 2 ^ 64 = omega arith in
    let of : Bor (List ℕ) → List ℕ = λ p. p.now in
    let more : map of c.push.new.self.items ≡ map of c.blocks-2.payloads.items ++ c.in-Ok-Some.payload.now ∷ [] =
    ap (map of) c.in_ok-push-in-Ok-Some.ensures.items ∙ map-append of c.blocks-2.payloads.items (c.in-Ok-Some.payload ∷ []) in
    subst (λ (ps : List (List ℕ)). IsFront digest c.args.bytes.now ps (c.blocks-2.at + (17 + length c.in-Ok-Some.payload.now))) (sym more) (front_more c.blocks-2.invariant c.in-Ok-Some.payload.now small few next)
