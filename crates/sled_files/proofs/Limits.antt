-- Limits that are raised above what comes next.
use Rattle.std.proofs.Common.{◌≡◌, ◌+◌, ◌-◌, ◌^◌, ◌<◌, ◌≤◌, ℕ, Bool, true, false, nat_lt, nat_le, cond, refl, sym, ◌∙◌, ap, subst, arith, ◌⊎◌, inl, inr, List, [], length}
use Rattle.std.proofs.lemmas.Bool.Decides.{nat_tests}
use Rattle.std.specs.Prelude.{min, ◌&&◌, ◌==◌, Result, Ok, Err, OnOk, OnErr}
use Rattle.sled_store.specs.Store.{Store}
use Rattle.sled_pages.specs.Memory.{store_of}
use Rattle.sled_files.specs.Files.{IsGrown}
use Rattle.sled_files.specs.Lasting.{Limits, AreRaised}
use Rattle.sled_files.specs.Raised.{ComeNext, raised_to, raised_above, are_far, HasReached, RaisesNear, Raises, Reaches, ReachesOrFails, FlushesOn}
use Rattle.sled_files.specs.Stored.{Stored, stored_as, missed_after, over, AreWithin}
use Rattle.sled_files.proofs.Numbers.{le_lt}

pub same_limits : {a b : Limits} → a.pids ≡ b.pids → a.versions ≡ b.versions → a ≡ b
same_limits {a} {b} pids versions = ap (λ (n : ℕ). record a { pids = n }) pids ∙ ap (λ (n : ℕ). record b { versions = n }) versions

pub le_raised : (limit next : ℕ) → limit ≤ raised_to limit next
le_raised limit next = omega arith

-- a page number that would have more than 64 bits is far from no limit, and a limit goes no further
far_same : (greatest pid limit : ℕ) → limit < 2 ^ 64 → pid ≡ min (greatest + 1) (2 ^ 64 - 1) → nat_lt (pid + 200000) limit ≡ nat_lt (greatest + 1 + 200000) limit
far_same greatest pid limit few is = elim (nat_lt (pid + 200000) limit) as (λ b. nat_lt (pid + 200000) limit ≡ b → b ≡ nat_lt (greatest + 1 + 200000) limit) [
  | true ↦ λ e. let lt : pid + 200000 < limit = grind (arith, nat_tests) in let k : greatest + 1 + 200000 < limit = omega (arith, lt, few, is) in grind (arith, nat_tests)
  | false ↦ λ e. let lt : limit ≤ pid + 200000 = grind (arith, nat_tests) in let k : limit ≤ greatest + 1 + 200000 = omega (arith, lt, few, is) in grind (arith, nat_tests)
] refl

raised_same : (greatest pid limit : ℕ) → pid ≡ min (greatest + 1) (2 ^ 64 - 1) → raised_to limit pid ≡ raised_to limit (greatest + 1)
raised_same greatest pid limit is = omega (arith, is)

far_then : (greatest version pid : ℕ) (limits : Limits) → limits.pids < 2 ^ 64 → pid ≡ min (greatest + 1) (2 ^ 64 - 1) → are_far (greatest + 1) version limits ≡ are_far pid version limits
far_then greatest version pid limits few is = ap (λ (b : Bool). b && nat_lt (version + 200000) limits.versions) (sym (far_same greatest pid limits.pids few is))

-- what a flush that writes makes of the limits
module _ {s : Store} (greatest version pid : ℕ) (limits : Limits) (pids : (p : ℕ) → 0 < p → s.pids p ≡ nat_le p greatest) (versions : (v : ℕ) → s.versions v ≡ nat_lt v version) (few : limits.pids < 2 ^ 64) (is : pid ≡ min (greatest + 1) (2 ^ 64 - 1)) where
  next : ComeNext s (greatest + 1) version
  next = record { positive = omega arith; pids = λ p positive. pids p positive ∙ le_lt p greatest; versions = versions }

  pub near_kept : are_far pid version limits ≡ true → RaisesNear s limits limits
  near_kept far = record { pid = greatest + 1; version = version; next = next; is = sym (ap (λ (b : Bool). cond b limits (raised_above (greatest + 1) version limits)) (far_then greatest version pid limits few is ∙ far)) }

  pub near_raised : (raised : Limits) → are_far pid version limits ≡ false → raised.pids ≡ raised_to limits.pids pid → raised.versions ≡ raised_to limits.versions version → RaisesNear s limits raised
  near_raised raised near higher further = record {
    pid = greatest + 1;
    version = version;
    next = next;
    is = same_limits (higher ∙ raised_same greatest pid limits.pids is) further ∙ sym (ap (λ (b : Bool). cond b limits (raised_above (greatest + 1) version limits)) (far_then greatest version pid limits few is ∙ near));
  }

pub next_over : (m k : ℕ) {s : Store} {pid version : ℕ} → ComeNext s pid version → ComeNext (over m k s) pid version
next_over m k c = record { positive = c.positive; pids = c.pids; versions = c.versions }

pub near_over : (m k : ℕ) {s : Store} {limits raised : Limits} → RaisesNear s limits raised → RaisesNear (over m k s) limits raised
near_over m k n = record { pid = n.pid; version = n.version; next = next_over m k n.next; is = n.is }

-- a page number that comes next is no higher than its limit, or the first one
pid_low : {limits : Limits} {s : Store} {pid version : ℕ} → AreWithin limits s → ComeNext s pid version → pid ≤ limits.pids + 1
pid_low {limits} {s} {pid} {version} within next = elim (nat_lt 1 pid) as (λ b. nat_lt 1 pid ≡ b → pid ≤ limits.pids + 1) [
  | true ↦ λ e.
      let more : 1 < pid = grind (arith, nat_tests) in
      let positive : 0 < pid - 1 = omega (arith, more) in
      let before : nat_lt (pid - 1) pid ≡ true = grind (arith, nat_tests) in
      let below : pid - 1 < limits.pids = within.pids (pid - 1) positive (next.pids (pid - 1) positive ∙ before) in
      omega (arith, below)
  | false ↦ λ e. let few : pid ≤ 1 = grind (arith, nat_tests) in omega (arith, few)
] refl

-- a version that comes next is no higher than its limit
version_low : {limits : Limits} {s : Store} {pid version : ℕ} → AreWithin limits s → ComeNext s pid version → version ≤ limits.versions
version_low {limits} {s} {pid} {version} within next = elim (nat_lt 0 version) as (λ b. nat_lt 0 version ≡ b → version ≤ limits.versions) [
  | true ↦ λ e.
      let before : nat_lt (version - 1) version ≡ true = grind (arith, nat_tests) in
      let below : version - 1 < limits.versions = within.versions (version - 1) (next.versions (version - 1) ∙ before) in
      omega (arith, below)
  | false ↦ λ e. let none : version ≤ 0 = grind (arith, nat_tests) in omega (arith, none)
] refl

-- limits that are raised above what comes next are not far above the limits that there were
pub raised_by : {limits : Limits} {s : Store} {pid version : ℕ} (pids versions : ℕ) → AreWithin limits s → ComeNext s pid version → pids ≡ raised_to limits.pids pid → versions ≡ raised_to limits.versions version → AreRaised limits (record { pids = pids; versions = versions })
raised_by {limits} {s} {pid} {version} pids versions within next higher further =
    let low : pid ≤ limits.pids + 1 = pid_low within next in
    let also : version ≤ limits.versions = version_low within next in
    record {
      pids = omega (arith, higher);
      versions = omega (arith, further);
      pids_most = omega (arith, higher, low);
      versions_most = omega (arith, further, also);
    }

pub stay_raised : (limits : Limits) → AreRaised limits limits
stay_raised limits = record { pids = omega arith; versions = omega arith; pids_most = omega arith; versions_most = omega arith }

pub raised_near : {limits raised : Limits} {s : Store} → AreWithin limits s → RaisesNear s limits raised → AreRaised limits raised
raised_near {limits} {raised} {s} within near = subst (AreRaised limits) (sym near.is) (elim (are_far near.pid near.version limits) as (λ b. AreRaised limits (cond b limits (raised_above near.pid near.version limits))) [
  | true ↦ stay_raised limits
  | false ↦ raised_by (raised_to limits.pids near.pid) (raised_to limits.versions near.version) within near.next refl refl
])

-- limits that a flush sets: they stay if nothing is to be added, and else are raised where what comes next is near
pub raised_ahead : {limits raised : Limits} {s : Store} (is_idle : Bool) → AreWithin limits s → (is_idle ≡ true → raised ≡ limits) → (is_idle ≡ false → RaisesNear s limits raised) → AreRaised limits raised
raised_ahead {limits} {raised} {s} true within idle busy = subst (AreRaised limits) (sym (idle refl)) (stay_raised limits)
raised_ahead {limits} {raised} {s} false within idle busy = raised_near within (busy refl)

-- one of two numbers has reached its limit
pub one_reached : (pid version : ℕ) (limits : Limits) → (nat_lt pid limits.pids && nat_lt version limits.versions) ≡ false → (limits.pids ≤ pid) ⊎ (limits.versions ≤ version)
one_reached pid version limits is = elim (nat_lt pid limits.pids) as (λ b. nat_lt pid limits.pids ≡ b → (limits.pids ≤ pid) ⊎ (limits.versions ≤ version)) [
  | true ↦ λ e. inr (grind (arith, nat_tests))
  | false ↦ λ e. inl (grind (arith, nat_tests))
] refl

pub grown_by : {D : Type 0} {seen : D → List ℕ} {old new : _} (m n : ℕ) → m ≡ n → IsGrown {D = D} seen m old new → IsGrown seen n old new
grown_by {D} {seen} {old} {new} m n is grown = subst (λ (k : ℕ). IsGrown seen k old new) is grown

-- what is done with the pages after a number was reached
module _ {D : Type 0} {seen : D → List ℕ} {old mid : Stored D} (new : Stored D) (files : new.files ≡ mid.files) (limits : new.limits ≡ mid.limits) where
  pub reaches_on : Reaches seen old mid → Reaches seen old new
  reaches_on (inl same) = inl (files ∙ same.0, limits ∙ same.1)
  reaches_on (inr raises) = inr (record {
    files = rw files raises.files;
    limits = rw limits raises.limits;
  })

  pub reaches_ok : {T E : Type 0} (r : Result T E) → Reaches seen old mid → OnOk r (Reaches seen old new)
  reaches_ok (Ok x) reaches = reaches_on reaches
  reaches_ok (Err e) reaches = tt

  pub reaches_err : {T E : Type 0} (r : Result T E) → Reaches seen old mid → OnErr r (ReachesOrFails seen old new)
  reaches_err (Ok x) reaches = tt
  reaches_err (Err e) reaches = inl (reaches_on reaches)

pub fails_to_reach : {D : Type 0} {seen : D → List ℕ} {old new : Stored D} → new.limits ≡ old.limits → (new.files ≡ old.files) ⊎ (HasReached (stored_as old) old.limits × (new.files.failed ≡ true)) → ReachesOrFails seen old new
fails_to_reach kept (inl same) = inl (inl (same, kept))
fails_to_reach kept (inr failed) = inr (failed.0, failed.1, kept)

-- the limits that a flush sets, by what was pending
pub record AreFlushed {D : Type 0} (raised : Limits) (pending : List ℕ) (f : Stored D) : Type 0 where
  pub idle : pending ≡ [] → raised ≡ f.limits
  pub busy : 0 < length pending → RaisesNear (stored_as f) f.limits raised

pub flushed_limits : {D : Type 0} (f : Stored D) (raised : Limits) {pending : List ℕ} {n : ℕ} → n ≡ length pending → ((n == 0) ≡ true → raised ≡ f.limits) → ((n == 0) ≡ false → RaisesNear (stored_as f) f.limits raised) → AreFlushed raised pending f
flushed_limits f raised {pending} {n} same idle busy = record {
  idle = λ is. let k : n ≡ 0 = same ∙ ap length is in idle (grind (arith, nat_tests));
  busy = λ some. let k : 0 < n = omega (arith, same, some) in busy (grind (arith, nat_tests));
}

-- a number has reached its limit, and the limits were raised in the files
pub raises_files : {D : Type 0} {seen : D → List ℕ} (old new : Stored D) (pid version : ℕ) → ComeNext (store_of old.pages) pid version → (nat_lt pid old.limits.pids && nat_lt version old.limits.versions) ≡ false → new.limits ≡ raised_above pid version old.limits → IsGrown seen 17 old.files new.files → Raises seen old new
raises_files old new pid version next reached is grown = record {
  files = grown;
  limits = record {
    pid = pid;
    version = version;
    next = next_over old.mark old.faults next;
    reached = one_reached pid version old.limits reached;
    is = is;
  };
}

-- .. or a disk refused to raise them
pub fails_reached : {D : Type 0} (old new : Stored D) (pid version : ℕ) → ComeNext (store_of old.pages) pid version → (nat_lt pid old.limits.pids && nat_lt version old.limits.versions) ≡ false → (new.files ≡ old.files) ⊎ (new.files.failed ≡ true) → (new.files ≡ old.files) ⊎ (HasReached (stored_as old) old.limits × (new.files.failed ≡ true))
fails_reached old new pid version next reached (inl same) = inl same
fails_reached old new pid version next reached (inr failed) = inr (
  record {
    pid = pid;
    version = version;
    next = next_over old.mark old.faults next;
    is = one_reached pid version old.limits reached;
  },
  failed,
)

-- a flush that adds a block after a snapshot was missed
pub flushes_missed : {D T E : Type 0} (seen : D → List ℕ) (due one : Type 0) (old mid new : Stored D) (r : Result T E) → mid ≡ record old { missed = missed_after old } → new.missed ≡ mid.missed → OnOk r (FlushesOn seen mid new) → OnOk r (due → one ⊎ (FlushesOn seen old new × (new.missed ≡ missed_after old)))
flushes_missed {D} {T} {E} seen due one old mid new (Ok x) is kept on = λ d.
    let f : FlushesOn seen (record old { missed = missed_after old }) new = subst (λ (m : Stored D). FlushesOn seen m new) is on in
    inr (record { files = f.files; idle = f.idle; limits = f.limits }, kept ∙ ap (λ (m : Stored D). m.missed) is)
flushes_missed seen due one old mid new (Err e) is kept on = tt
