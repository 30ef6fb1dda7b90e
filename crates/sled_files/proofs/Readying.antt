-- Files as they were opened are ready.
use Rattle.std.proofs.Common.{◌≡◌, inl, ℕ, ◌<◌, List, ◌∷◌, length, refl, sym, ap, subst, arith, length-append}
use Rattle.std.specs.Prelude.{Bool, true, false}
use Rattle.sled_disk.specs.Disk.{Only}
use Rattle.sled_log.specs.Digest.{digest}
use Rattle.sled_log.specs.Log.{closed, blocks, IsLog}
use Rattle.sled_files.specs.declared.replay.Made.{Made}
use Rattle.sled_files.specs.Change.{nothing_yet}
use Rattle.sled_files.specs.Standing.{StandsAt, IsBlank}
use Rattle.sled_files.specs.Files.{Files, picked, IsReady}
use Rattle.sled_files.specs.theory.Chosen.{IsOpened}
use Rattle.sled_files.specs.theory.Reopened.{OpensStore}

gate_within : {file : List ℕ} {payloads : List (List ℕ)} {gate : ℕ} → IsLog digest file payloads gate → gate < length file
gate_within {file} {payloads} {gate} log = let l = ap length log.file_is in let m = length-append (blocks digest payloads) (closed ∷ log.rest) in omega (arith, l, m, log.gate_is)

module _ {D : Type 0} (seen : D → List ℕ) (may_leave : D → List ℕ → Type 0) (first second : D) (first_only : Only (seen first) (may_leave first)) (second_only : Only (seen second) (may_leave second)) where
  pub ready_new : (gate generation : ℕ) → IsBlank (seen second) → (at : StandsAt (seen first) gate generation nothing_yet) → length at.stands.has.first ≡ 0 → (f : Files D) → f ≡ record { first = first; second = second; is_second = false; gate = gate; snapshot = 0; generation = generation; failed = false }
      → IsReady seen may_leave f nothing_yet
  ready_new gate generation blank stands begins f is =
      subst (λ (x : Files D). IsReady seen may_leave x nothing_yet) (sym is) (record { sound = refl; first_only = first_only; second_only = second_only; stands = stands; begins = begins; behind = inl blank })

  pub place_of : (is_second : Bool) {gate snapshot generation : ℕ} {store : Made} → IsOpened (seen first) (seen second) is_second gate snapshot generation store → gate < length (seen (picked is_second first second))
  place_of true o = gate_within o.stands.log
  place_of false o = gate_within o.stands.log

  ready_of : (is_second : Bool) (gate snapshot generation : ℕ) {store : Made} → (o : IsOpened (seen first) (seen second) is_second gate snapshot generation store)
      → IsReady seen may_leave (record { first = first; second = second; is_second = is_second; gate = gate; snapshot = snapshot; generation = generation; failed = false }) o.durable
  ready_of true gate snapshot generation o = record { sound = refl; first_only = first_only; second_only = second_only; stands = o.stands; begins = o.begins; behind = o.behind }
  ready_of false gate snapshot generation o = record { sound = refl; first_only = first_only; second_only = second_only; stands = o.stands; begins = o.begins; behind = o.behind }

  pub opens_store : {is_second : Bool} {gate snapshot generation : ℕ} {store : Made} → (o : IsOpened (seen first) (seen second) is_second gate snapshot generation store)
      → (f : Files D) → f ≡ record { first = first; second = second; is_second = is_second; gate = gate; snapshot = snapshot; generation = generation; failed = false } → OpensStore seen may_leave (seen first) (seen second) f store
  opens_store {is_second} {gate} {snapshot} {generation} o f is = record {
    durable = o.durable;
    stand = o.stand;
    alone = o.alone;
    ready = subst (λ (x : Files D). IsReady seen may_leave x o.durable) (sym is) (ready_of is_second gate snapshot generation o);
    first_stays = ap (λ (x : Files D). seen x.first) is;
    second_stays = ap (λ (x : Files D). seen x.second) is;
    reopened = o.reopened;
    pids = o.pids;
    versions = o.versions;
    named = o.named;
  }
