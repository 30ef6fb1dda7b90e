-- A call that is made alone: each step reads on or repairs, and a number falls with each of them.
use Rattle.std.proofs.Common.{◌≡◌, ℕ, suc, ◌+◌, ◌*◌, ◌≤◌, ◌<◌, Bool, Option, Some, ap, ◌∙◌, subst, inl, inr, ◌⊎◌, arith, le_refl}
use Rattle.std.proofs.Math.Nat.{suc-mul, mul_comm, mul-le-mul_left}
use Rattle.sled_store.specs.State.{nodes_of}
use Rattle.sled_store.specs.Store.{Store, now}
use Rattle.sled_model.specs.State.{IsOnKey}
use Rattle.tree_laws.specs.Forest.{Tree, Forest}
use Rattle.tree_laws.specs.Paths.{tree_pages}
use Rattle.tree_laws.specs.Snapshot.{HasForest, snapshot_of}
use Rattle.tree_laws.specs.declared.flight.Stage.{Stage}
use Rattle.tree_laws.specs.declared.flight.Stage.TheVariants as stage
use Rattle.sled_tree.specs.Course.{Course, IsAimed}
use Rattle.sled_tree.specs.Stages.{Knows}
use Rattle.sled_tree.specs.declared.flight.Sequel.TheVariants.{Go}
use Rattle.tree_progress.specs.Alone.{GoesOnAlone, MovesAlone, Begins, Moves, alone_steps, AloneLaw}
use Rattle.tree_progress.specs.Steps.{HasHalves}
use Rattle.tree_progress.specs.ToDo.{to_do}
use Rattle.tree_progress.proofs.Fresh.{IsFresh}
use Rattle.tree_progress.proofs.Halves.{halves_law}
use Rattle.tree_progress.proofs.Landing.{aims_low, lands}

-- what holds of a call that is alone, between two of its steps: the pages are well formed, and it sees them as they are
pub record IsAlone (numbers : Tree → Option ℕ) (given : ℕ → Bool) (s : Store) (j : Course) (a : Stage) (n : ℕ) (w : Forest) : Type 0 where
  pub formed : HasForest (snapshot_of s numbers given) w
  pub named : numbers j.tree.name ≡ Some j.tree.number
  pub knows : Knows (snapshot_of s numbers given) w j a
  pub halves : HasHalves (nodes_of (now s)) a
  pub fresh : IsFresh (snapshot_of s numbers given) w j n a
  pub on_key : IsOnKey j.call

-- fewer steps are ahead, or less is left to repair
abbrev pub FallsBy : Store → Store → Tree → ℕ → ℕ → Type 0
FallsBy old new t n ahead = ((to_do (now new) t ≡ to_do (now old) t) × (tree_pages (now new) t ≡ tree_pages (now old) t) × (ahead < n))
    ⊎ ((to_do (now new) t + 1 ≤ to_do (now old) t) × (tree_pages (now new) t ≤ tree_pages (now old) t + 1) × (ahead < 2 * tree_pages (now new) t + 4))

steps_on : (numbers : Tree → Option ℕ) (given : ℕ → Bool) (old new : Store) (j : Course) (a b : Stage) (n : ℕ) (w v : Forest) → IsAlone numbers given old j a n w → GoesOnAlone numbers given j old a w new b v
    → (ahead : ℕ) × IsAlone numbers given new j b ahead v × FallsBy old new j.tree.name n ahead
steps_on numbers given old new j a b n w v k l =
    let x = lands j old new numbers given w v k.formed l.formed l.stays j.tree.number k.named n a (Go b) (λ e. aims_low j k.on_key k.knows.2) k.knows.0 k.knows.1 k.halves k.fresh l.follows.is in
    elim x [
      | inl over ↦ absurd over
      | inr y ↦ elim y [
        | inl z ↦ (z.2.0, next z.2.0 z.2.2, inl (z.0, z.1, z.2.1))
        | inr z ↦ (z.2.0, next z.2.0 z.2.2, inr (z.0, z.1, z.2.1))
      ]
    ]
  where
    next : (ahead : ℕ) → IsFresh (snapshot_of new numbers given) v j ahead b → IsAlone numbers given new j b ahead v
    next ahead fresh = record { formed = l.formed; named = k.named; knows = l.knows; halves = halves_law.steps j old new a (Go b) l.follows; fresh = fresh; on_key = k.on_key }

-- the numbers: x is left to repair, the tree has p pages, and n steps are ahead; no attempt has more than k
pub fewer_ahead : (i x n k : ℕ) (x' n' total : ℕ) → x' ≡ x → n' < n → i + x * k + n ≤ total → suc i + x' * k + n' ≤ total
fewer_ahead i x n k x' n' total e l u = let same : x' * k ≡ x * k = ap (λ z. z * k) e in sum (x * k) (x' * k) same u
  where
    sum : (a b : ℕ) → b ≡ a → i + a + n ≤ total → suc i + b + n' ≤ total
    sum a b g u = omega (arith, l)

pub less_left : (i x n k : ℕ) (x' n' total : ℕ) → x' + 1 ≤ x → n' < k → i + x * k + n ≤ total → suc i + x' * k + n' ≤ total
less_left i x n k x' n' total l l' u =
    let more : suc x' * k ≤ x * k = subst (λ z. z ≤ x * k) (mul_comm k (suc x')) (subst (λ z. k * suc x' ≤ z) (mul_comm k x) (mul-le-mul_left k (omega arith))) in
    sum (x * k) (x' * k) (subst (λ z. z ≤ x * k) (suc-mul x' k) more) u
  where
    sum : (a b : ℕ) → b + k ≤ a → i + a + n ≤ total → suc i + b + n' ≤ total
    sum a b g u = omega (arith, l')

-- so many steps were done from the store a on, and so many are ahead at most
pub record IsAhead (numbers : Tree → Option ℕ) (given : ℕ → Bool) (a b : Store) (j : Course) (stage : Stage) (i : ℕ) (w : Forest) : Type 0 where
  pub ahead : ℕ
  pub alone : IsAlone numbers given b j stage ahead w
  pub few : tree_pages (now b) j.tree.name + to_do (now b) j.tree.name ≤ tree_pages (now a) j.tree.name + to_do (now a) j.tree.name
  pub falls : i + to_do (now b) j.tree.name * (2 * (tree_pages (now a) j.tree.name + to_do (now a) j.tree.name) + 4) + ahead
      ≤ to_do (now a) j.tree.name * (2 * (tree_pages (now a) j.tree.name + to_do (now a) j.tree.name) + 4) + (2 * tree_pages (now a) j.tree.name + 2)

-- a call on a key that begins
pub ahead_first : (numbers : Tree → Option ℕ) (given : ℕ → Bool) (s : Store) (j : Course) (w : Forest) → HasForest (snapshot_of s numbers given) w → numbers j.tree.name ≡ Some j.tree.number → IsOnKey j.call → IsAimed j → IsAhead numbers given s s j stage.Root 0 w
ahead_first numbers given s j w formed named on_key aimed = record {
  ahead = 2 * tree_pages (now s) j.tree.name + 2;
  alone = record { formed = formed; named = named; knows = (tt, tt, aimed); halves = tt; fresh = le_refl _; on_key = on_key };
  few = le_refl _;
  falls = none _ _;
}
  where
    none : (x y : ℕ) → 0 + x + y ≤ x + y
    none x y = omega arith

-- .. and one step more
pub ahead_next : (numbers : Tree → Option ℕ) (given : ℕ → Bool) (a b c : Store) (j : Course) (was is : Stage) (i : ℕ) (w v : Forest) → IsAhead numbers given a b j was i w → GoesOnAlone numbers given j b was w c is v → IsAhead numbers given a c j is (suc i) v
ahead_next numbers given a b c j was is i w v r l =
    let x = steps_on numbers given b c j was is r.ahead w v r.alone l in
    elim x.2 [
      | inl z ↦ record { ahead = x.0; alone = x.1; few = kept z.0 z.1 r.few; falls = fewer_ahead i (left b) r.ahead (2 * most + 4) (left c) x.0 _ z.0 z.2 r.falls }
      | inr z ↦ record { ahead = x.0; alone = x.1; few = one_more z.0 z.1 r.few; falls = less_left i (left b) r.ahead (2 * most + 4) (left c) x.0 _ z.0 (within x.0 (one_more z.0 z.1 r.few) z.2) r.falls }
    ]
  where
    left : Store → ℕ
    left s = to_do (now s) j.tree.name

    pages : Store → ℕ
    pages s = tree_pages (now s) j.tree.name

    most : ℕ
    most = pages a + left a

    kept : left c ≡ left b → pages c ≡ pages b → pages b + left b ≤ most → pages c + left c ≤ most
    kept e e' l = sum _ _ _ _ _ e e' l
      where
        sum : (x y u v t : ℕ) → x ≡ y → u ≡ v → v + y ≤ t → u + x ≤ t
        sum x y u v t e e' l = omega arith

    one_more : left c + 1 ≤ left b → pages c ≤ pages b + 1 → pages b + left b ≤ most → pages c + left c ≤ most
    one_more e e' l = sum _ _ _ _ _ e e' l
      where
        sum : (x y u v t : ℕ) → x + 1 ≤ y → u ≤ v + 1 → v + y ≤ t → u + x ≤ t
        sum x y u v t e e' l = omega arith

    within : (q : ℕ) → pages c + left c ≤ most → q < 2 * pages c + 4 → q < 2 * most + 4
    within q l u = sum q _ _ _ l u
      where
        sum : (q p x t : ℕ) → p + x ≤ t → q < 2 * p + 4 → q < 2 * t + 4
        sum q p x t l u = omega arith

-- so fewer steps were done than this
pub ahead_few : {numbers : Tree → Option ℕ} {given : ℕ → Bool} {a b : Store} {j : Course} {stage : Stage} {i : ℕ} {w : Forest} → IsAhead numbers given a b j stage i w → i < alone_steps (now a) j.tree.name
ahead_few {a = a} {b = b} {j = j} {i = i} r = sum (to_do (now a) j.tree.name) (tree_pages (now a) j.tree.name) _ r.ahead r.falls
  where
    sum : (x p y ahead : ℕ) → i + y + ahead ≤ x * (2 * (p + x) + 4) + (2 * p + 2) → i < (x + 1) * (2 * (p + x) + 4)
    sum x p y ahead l = all (x * (2 * (p + x) + 4)) _ (ap (λ z. z * (2 * (p + x) + 4)) one ∙ suc-mul x (2 * (p + x) + 4)) l
      where
        one : x + 1 ≡ suc x
        one = omega arith

        all : (a b : ℕ) → b ≡ a + (2 * (p + x) + 4) → i + y + ahead ≤ a + (2 * p + 2) → i < b
        all a b e l = omega arith

-- steps of a call that is alone
moves : (numbers : Tree → Option ℕ) (given : ℕ → Bool) (j : Course) (s : Store) (w : Forest) → IsAhead numbers given s s j stage.Root 0 w → (i : ℕ) (b : Store) (a : Stage) (v : Forest) → MovesAlone numbers given j s stage.Root w i b a v → IsAhead numbers given s b j a i v
moves numbers given j s w k i b a v Begins = k
moves numbers given j s w k i c e v (Moves {n = n} {b = b} {a = a} {u = u} before step) = ahead_next numbers given s b c j a e n u v (moves numbers given j s w k n b a u before) step

pub alone_law : AloneLaw
alone_law numbers given j s w formed named on_key aimed i new a v m = ahead_few (moves numbers given j s w (ahead_first numbers given s j w formed named on_key aimed) i new a v m)
