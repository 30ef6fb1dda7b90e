-- What is read of a log up to a tear, and what a crash leaves of one to which a block is added in one sync.
use Rattle.std.proofs.Common.{◌≡◌, inl, inr, ⊎_elim, ℕ, zero, suc, ◌+◌, ◌-◌, ◌≤◌, ◌<◌, ◌^◌, List, [], ◌∷◌, ◌++◌, length, take, drop, refl, sym, subst, ◌∙◌, ap, arith, append_assoc, length-append, length-drop}
use Rattle.std.specs.Prelude.{◌⊎◌, nat_le, Result, Option, Some, None, Ok, Err, nat_eq}
use Rattle.std.specs.List.{AllByRecursion}
use Rattle.std.proofs.lemmas.List.{take_at, drop_at, append-nil}
use Rattle.std.proofs.lemmas.Bool.{leb-true}
use Rattle.sled_disk.specs.Disk.{written, Torn, Follows, NoMore, Only, Elapses, LeavesOnly}
use Rattle.sled_log.specs.Log.{closed, opened, block, blocks, number_in, payload_in, next_of, IsLog}
use Rattle.sled_log.specs.Append.{IsBlockFor}
use Rattle.sled_log.specs.Tear.{tear_by, tear_from, log_to_tear, HasNoBlock, EndsAt, IsTorn}
use Rattle.sled_log.proofs.LogLemmas.{count-blocks, length-block, next_is}
use Rattle.sled_log.proofs.Moments.{lost, torn_from, begun, one_more}
use Rattle.sled_log.proofs.Appending.{front, gate_stays}
use Rattle.sled_log.proofs.ReadingLemmas.{some_chosen}

module _ (digest : List ℕ → ℕ) where
  -- a closed gate is no block
  pub closed_ends : (rest : List ℕ) → HasNoBlock digest (closed ∷ rest)
  closed_ends rest p is = absurd (cc)

  -- neither is what was read as none, or as a fault
  pub none_is : (next : Result (Option (List ℕ)) (Unit {0})) → next ≡ Ok None → (p : List ℕ) → next ≡ Ok (Some p) → ⊥
  none_is next none p is = absurd (cc)

  pub fault_is : (next : Result (Option (List ℕ)) (Unit {0})) (fault : Unit {0}) → next ≡ Err fault → (p : List ℕ) → next ≡ Ok (Some p) → ⊥
  fault_is next fault none p is = absurd (cc)

  -- where no block is, nothing is read
  by_none : (next : Result (Option (List ℕ)) (Unit {0})) → ((p : List ℕ) → next ≡ Ok (Some p) → ⊥) → (following : List ℕ → List (List ℕ)) → tear_by next following ≡ []
  by_none (Ok None) none following = refl
  by_none (Ok (Some p)) none following = absurd (none p refl)
  by_none (Err fault) none following = refl

  pub ends_here : (most : ℕ) (rest : List ℕ) → HasNoBlock digest rest → tear_from digest most rest ≡ []
  ends_here zero rest none = refl
  ends_here (suc most) rest none = by_none (next_of digest rest) none (λ p. tear_from digest most (drop (17 + length p) rest))

  module _ (small : (p : List ℕ) → digest p < 2 ^ 64) where
    -- open blocks are read as their payloads, and then the rest as it is
    pub reads_on : (payloads : List (List ℕ)) (rest : List ℕ) (most : ℕ) → AllByRecursion (λ p. length p < 2 ^ 64) payloads
        → tear_from digest (most + length payloads) (blocks digest payloads ++ rest) ≡ payloads ++ tear_from digest most rest
    reads_on [] rest most fit = ap (λ (n : ℕ). tear_from digest n rest) (omega arith)
    reads_on (p ∷ payloads) rest most fit =
        let more : most + suc (length payloads) ≡ suc (most + length payloads) = omega arith in
        let behind = blocks digest payloads ++ rest in
        let bytes = block digest opened p ++ behind in
        ap (λ (n : ℕ). tear_from digest n (blocks digest (p ∷ payloads) ++ rest)) more
        ∙ ap (λ (l : List ℕ). tear_from digest (suc (most + length payloads)) l) (append_assoc (block digest opened p) (blocks digest payloads) rest)
        ∙ ap (λ next. tear_by next (λ q. tear_from digest (most + length payloads) (drop (17 + length q) bytes))) (next_is digest small p behind fit.0)
        ∙ ap (λ (l : List ℕ). p ∷ tear_from digest (most + length payloads) l) (drop_at (block digest opened p) behind (17 + length p) (length-block digest small opened p))
        ∙ ap (λ (ps : List (List ℕ)). p ∷ ps) (reads_on payloads rest most fit.1)

    -- the same of a whole file
    pub reads_file : (payloads : List (List ℕ)) (rest : List ℕ) → AllByRecursion (λ p. length p < 2 ^ 64) payloads
        → log_to_tear digest (blocks digest payloads ++ rest) ≡ payloads ++ tear_from digest (length (blocks digest payloads ++ rest) - length payloads) rest
    reads_file payloads rest fit =
        let whole = blocks digest payloads ++ rest in
        let is : length whole ≡ length whole - length payloads + length payloads = omega (arith, count-blocks digest small payloads, length-append (blocks digest payloads) rest) in
        ap (λ (n : ℕ). tear_from digest n whole) is ∙ reads_on payloads rest (length whole - length payloads) fit

    -- what ends at a place is read as its payloads
    pub ends_read : {file : List ℕ} {payloads : List (List ℕ)} {place : ℕ} → EndsAt digest file payloads place → log_to_tear digest file ≡ payloads
    ends_read {file} {payloads} {place} end =
        ap (log_to_tear digest) end.file_is
        ∙ reads_file payloads end.rest end.fit
        ∙ ap (λ (ps : List (List ℕ)). payloads ++ ps) (ends_here _ end.rest end.ends)
        ∙ append-nil payloads

    -- a log up to a closed gate is read as its payloads
    pub log_reads : {file : List ℕ} {payloads : List (List ℕ)} {gate : ℕ} → IsLog digest file payloads gate → log_to_tear digest file ≡ payloads
    log_reads log = ends_read (record { fit = log.fit; rest = closed ∷ log.rest; file_is = log.file_is; ends = closed_ends log.rest; place_is = log.gate_is })

  -- a single byte is no whole block
  pub short_ends : (l : List ℕ) → length l ≤ 1 → HasNoBlock digest l
  short_ends [] short p is = absurd (cc)
  short_ends (gate ∷ b) short p is =
      let told = some_chosen (nat_eq gate closed) (nat_eq gate opened) (nat_le (16 + number_in b) (length b)) (nat_eq (number_in (drop 8 b)) (digest (payload_in b))) (payload_in b) p is in
      let long : 16 + number_in b ≤ length b = leb-true _ _ told.1 in
      absurd (omega (arith, long, short))

  -- if the only block that can be at the front is this one, and a byte at most is behind it, then it is read or none
  pub one_or_none : (most : ℕ) (l new : List ℕ) → ((p : List ℕ) → next_of digest l ≡ Ok (Some p) → (p ≡ new) × (length (drop (17 + length p) l) ≤ 1))
      → (tear_from digest most l ≡ []) ⊎ (tear_from digest most l ≡ new ∷ [])
  one_or_none zero l new only = inl refl
  one_or_none (suc most) l new only = at_next (next_of digest l) only
    where
      at_next : (next : Result (Option (List ℕ)) (Unit {0})) → ((p : List ℕ) → next ≡ Ok (Some p) → (p ≡ new) × (length (drop (17 + length p) l) ≤ 1))
          → (tear_by next (λ p. tear_from digest most (drop (17 + length p) l)) ≡ []) ⊎ (tear_by next (λ p. tear_from digest most (drop (17 + length p) l)) ≡ new ∷ [])
      at_next (Ok None) is = inl refl
      at_next (Err fault) is = inl refl
      at_next (Ok (Some p)) is =
          let it = is p refl in
          let behind = drop (17 + length p) l in
          inr (ap (λ (q : List ℕ). q ∷ tear_from digest most behind) it.0 ∙ ap (λ (ps : List (List ℕ)). new ∷ ps) (ends_here most behind (short_ends behind it.1)))

module _ {file : List ℕ} {gate : ℕ} {bytes : List ℕ} (b : IsBlockFor file gate bytes) (last : gate + 1 ≡ length file) where
  -- the gate is closed
  behind_closed : (c end : List ℕ) → c ≡ front b ++ closed ∷ end → IsTorn b c
  behind_closed c end is = record {
    more = [];
    log = log_reads b.digest b.small (record { fit = b.log.fit; rest = end; file_is = is; gate_is = b.log.gate_is }) ∙ sym (append-nil b.payloads);
    told = λ tells. inl refl;
  }

  size : length bytes ≡ 17 + length b.payload
  size =
      let whole : length (opened ∷ bytes) ≡ length (block b.digest opened b.payload ++ closed ∷ []) = ap (λ (l : List ℕ). length (opened ∷ l)) b.bytes_are in
      omega (arith, whole, length-append (block b.digest opened b.payload) (closed ∷ []), length-block b.digest b.small opened b.payload)

  -- the gate is open
  behind_opened : (c end : List ℕ) → length end ≤ length bytes → c ≡ front b ++ opened ∷ end → IsTorn b c
  behind_opened c end short is =
      let rest = opened ∷ end in
      let most = length (front b ++ rest) - length b.payloads in
      let at_gate : drop gate c ≡ rest = ap (λ (l : List ℕ). drop gate l) is ∙ drop_at (front b) rest gate b.log.gate_is in
      record {
        more = tear_from b.digest most rest;
        log = ap (log_to_tear b.digest) is ∙ reads_file b.digest b.small b.payloads rest b.log.fit;
        told = λ tells. one_or_none b.digest most rest b.payload (λ p next.
            let new : p ≡ b.payload = tells p (ap (λ (l : List ℕ). next_of b.digest l) at_gate ∙ next) in
            (new, omega (arith, short, size, ap length new, length-drop (17 + length p) rest)));
      }

  -- after the block was written
  pub torn_block : (c : List ℕ) → Torn (gate + 1) bytes file c → IsTorn b c
  torn_block c torn = behind_closed c (drop (gate + 1) c) (gate_stays b c torn)

  -- before it was
  pub untouched : (c : List ℕ) → c ≡ file → IsTorn b c
  untouched c is = torn_block c (lost (gate + 1) bytes file c is)

  opened_is : (d : List ℕ) → Torn (gate + 1) bytes file d → written gate (opened ∷ []) d ≡ front b ++ opened ∷ drop (gate + 1) d
  opened_is d torn =
      let end = drop (gate + 1) d in
      ap (λ (l : List ℕ). take gate l ++ (opened ∷ []) ++ end) (gate_stays b d torn)
      ∙ ap (λ (l : List ℕ). l ++ (opened ∷ []) ++ end) (take_at (front b) (closed ∷ end) gate b.log.gate_is)
      ∙ append_assoc (front b) (opened ∷ []) end

  -- and after the gate was opened too
  pub torn_gate : (d c : List ℕ) → Torn (gate + 1) bytes file d → Torn gate (opened ∷ []) d c → IsTorn b c
  torn_gate d c block_torn gate_torn =
      let end = drop (gate + 1) d in
      let short : length end ≤ length bytes = omega (arith, last, block_torn.no_longer, length-drop (gate + 1) d) in
      ⊎_elim
      (λ is. torn_block c (subst (λ (l : List ℕ). Torn (gate + 1) bytes file l) (sym is) block_torn))
      (λ is. behind_opened c end short (is ∙ opened_is d block_torn))
      (gate_torn.single refl (omega (arith, last, block_torn.no_shorter)))

module _ {D : Type 0} (seen : D → List ℕ) (moment : D → ℕ) (left_since : D → ℕ → List ℕ → Type 0) (may_leave : D → List ℕ → Type 0) (old : D) (gate : ℕ) (bytes : List ℕ) (last : gate + 1 ≡ length (seen old)) (only : Only (seen old) (may_leave old)) (here : (c : List ℕ) → left_since old (moment old) c → may_leave old c) (first : D) (torn : Follows (Torn (gate + 1) bytes) (may_leave old) (may_leave first)) (time : Elapses (moment old) (moment first) (left_since old) (left_since first) (may_leave first)) where
  block_left : (c : List ℕ) → may_leave first c → Torn (gate + 1) bytes (seen old) c
  block_left = torn_from (gate + 1) bytes (seen old) (may_leave old) (may_leave first) only torn

  -- while the block is written
  pub after_block_write : (b : IsBlockFor (seen old) gate bytes) → LeavesOnly moment left_since old first (IsTorn b)
  after_block_write b =
      one_more moment left_since old old first (IsTorn b) (may_leave first)
      (begun moment left_since old (IsTorn b) (λ c left. untouched b last c (only c (here c left))))
      time
      (λ c left. torn_block b last c (block_left c left))

  module _ (second : D) (gate_torn : Follows (Torn gate (opened ∷ [])) (may_leave first) (may_leave second)) (gate_time : Elapses (moment first) (moment second) (left_since first) (left_since second) (may_leave second)) where
    gate_left : (b : IsBlockFor (seen old) gate bytes) (c : List ℕ) → may_leave second c → IsTorn b c
    gate_left b c left = let from = gate_torn c left in torn_gate b last from.0 c (block_left from.0 from.1) from.2

    -- while the gate is opened
    pub after_gate_write : (b : IsBlockFor (seen old) gate bytes) → LeavesOnly moment left_since old second (IsTorn b)
    after_gate_write b = one_more moment left_since old first second (IsTorn b) (may_leave second) (after_block_write b) gate_time (gate_left b)

    -- while both are synced
    pub after_one_sync : (third : D) → NoMore (may_leave second) (may_leave third) → Elapses (moment second) (moment third) (left_since second) (left_since third) (may_leave third) → (b : IsBlockFor (seen old) gate bytes) → LeavesOnly moment left_since old third (IsTorn b)
    after_one_sync third no_more sync_time b = one_more moment left_since old second third (IsTorn b) (may_leave third) (after_gate_write b) sync_time (λ c left. gate_left b c (no_more c left))
