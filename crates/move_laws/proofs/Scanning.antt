-- A scan in flight: how many leaves lie ahead of it, and how many steps it has at most while no page changes.
use Rattle.std.proofs.Common.{◌≡◌, ◌≢◌, ℕ, suc, ◌+◌, ◌*◌, ◌<◌, ◌≤◌, Bool, true, false, not, length, List, [], ◌∷◌, Option, Some, None, sym, refl, ap, ◌∙◌, subst, inl, inr, ◌⊎◌, arith, le_refl, le_trans}
use Rattle.std.proofs.Math.Nat.{suc-mul, mul_comm, mul-le-mul_left}
use Rattle.std.proofs.lemmas.Cmp.{tied_itself}
use Rattle.std.proofs.lemmas.List.Sums.{count_by-le-length}
use Rattle.std.specs.List.{count_by}
use Rattle.std.specs.Ordering.{is_lt}
use Rattle.std.specs.declared.ops.Bound.{Bound}
use Rattle.std.specs.declared.ops.Bound.TheVariants.{Included, Excluded}
use Rattle.sled_nodes.proofs.Basics.{key_total, true_false, not_true, is_less}
use Rattle.sled_nodes.specs.Among.{is_up_to}
use Rattle.sled_nodes.specs.Order.{Key}
use Rattle.sled_nodes.specs.Ranges.{Range}
use Rattle.sled_nodes.specs.declared.node.Node.{Node}
use Rattle.sled_store.specs.In.{In}
use Rattle.sled_store.specs.Store.{Store, now}
use Rattle.sled_model.specs.State.{range_of, IsOnKey}
use Rattle.tree_laws.specs.Forest.{Tree, Forest, place}
use Rattle.tree_laws.specs.Paths.{tree_pages}
use Rattle.tree_laws.specs.Snapshot.{Snapshot, snapshot_of, nodes_at, HasForest, IsActing}
use Rattle.tree_laws.specs.declared.flight.Giving.{Giving}
use Rattle.tree_laws.specs.declared.flight.Merge.{Merge}
use Rattle.tree_laws.specs.declared.flight.Stage.{Stage}
use Rattle.tree_laws.specs.declared.flight.Stage.TheVariants as stage
use Rattle.tree_laws.proofs.Known.{fresh_in}
use Rattle.tree_laws.proofs.Order.{beyond, behind_key, upto-below, upto-refl}
use Rattle.sled_tree.specs.Course.{Course}
use Rattle.sled_tree.specs.Passing.{IsUnchanged}
use Rattle.sled_tree.specs.Stages.{changes_at, IsOnItsWay}
use Rattle.tree_progress.specs.Alone.{GoesOnAlone}
use Rattle.tree_progress.proofs.Arriving.{node_of}
use Rattle.tree_progress.proofs.Drifting.{is_calm, root_steps}
use Rattle.tree_progress.proofs.Landing.{below_total}
use Rattle.move_laws.specs.Among.{IsUnderWay, bound_behind}
use Rattle.move_laws.specs.Meant.{Flight, flight}
use Rattle.move_laws.proofs.Deeds.{Repairs, Takes}
use Rattle.move_laws.proofs.Lists.{count_fewer, count_same}
use Rattle.move_laws.proofs.OnWay.{IsGoing}
use Rattle.move_laws.proofs.Stepping.{IsStill, steps, going_any}

-- a node ends beyond a bound
abbrev ends_beyond : Bound Key → Key → Bool
ends_beyond aim [] = true
ends_beyond aim (b ∷ bs) = not (is_up_to aim (b ∷ bs))

-- a leaf lies ahead of a scan that aims at the bound
abbrev lies_ahead : Bool → Bound Key → Option Node → Bool
lies_ahead back aim None = false
lies_ahead true aim (Some n) = is_up_to aim n.lo
lies_ahead false aim (Some n) = ends_beyond aim n.hi

abbrev leaves_ahead : Snapshot → Forest → Tree → Bool → Bound Key → ℕ
leaves_ahead m w t back aim = count_by (λ p. lies_ahead back aim (nodes_at m p)) (w.chain (place t 0))

-- the steps that it takes to come to each of them
abbrev leaf_steps : Snapshot → Forest → Course → Range → ℕ
leaf_steps m w j r = leaves_ahead m w j.tree.name r.back j.aim * (root_steps m j + 1)

-- A call on a key has so many steps, as `IsGoing` says. A scan has those to its leaf, and those to the leaves ahead of it; one that has a
-- leaf as it was may have all leaves ahead of it
abbrev pub is_moving_as : Option Range → Snapshot → Forest → Course → ℕ → Stage → Type 0
is_moving_as None m w j n a = IsGoing m w j n a
is_moving_as (Some r) m w j n (stage.Give a) = (IsUnchanged m.state a.leaf × (leaf_steps m w j r ≤ n)) ⊎ (root_steps m j + tree_pages m.state j.tree.name * (root_steps m j + 1) ≤ n)
is_moving_as (Some r) m w j n other = (k : ℕ) × IsGoing m w j k other × (k + leaf_steps m w j r ≤ n)

abbrev pub IsMoving : Snapshot → Forest → Flight → ℕ → Type 0
IsMoving m w f n = is_moving_as (range_of f.course.call) m w f.course n f.stage

-- .. whatever its stage is
abbrev pub most_ahead : Option Range → ℕ → ℕ
most_ahead None pages = 4 * pages + 8
most_ahead (Some range) pages = pages * (2 * pages + 3) + (4 * pages + 8)

pub times : (k x y : ℕ) → x ≤ y → x * k ≤ y * k
times k x y l = subst (λ z. z ≤ y * k) (mul_comm k x) (subst (λ z. k * x ≤ z) (mul_comm k y) (mul-le-mul_left k l))

-- a scan has no more leaves ahead of it than the tree has pages
few_leaves : {m : Snapshot} {w : Forest} (is : HasForest m w) (t : Tree) (root : ℕ) → m.state.roots t ≡ Some root → (back : Bool) (aim : Bound Key) → leaves_ahead m w t back aim ≤ tree_pages m.state t
few_leaves {m} {w} is t root rooted back aim = le_trans (count_by-le-length (λ p. lies_ahead back aim (nodes_at m p)) (w.chain (place t 0))) (all (w.chain (place t 0)) refl)
  where
    none : (x : ℕ) → 0 ≤ x
    none x = omega arith

    plain : (x y : ℕ) → x + 0 ≤ y → x ≤ y
    plain x y l = omega arith

    all : (ps : List ℕ) → w.chain (place t 0) ≡ ps → length (w.chain (place t 0)) ≤ tree_pages m.state t
    all [] e = subst (λ z. length z ≤ tree_pages m.state t) (sym e) (none _)
    all (p ∷ ps) e = plain _ _ (below_total is t root rooted 0 p (subst (λ z. In p z) (sym e) (inl refl)))

some_byte : (hi : Key) → (hi ≢ []) → ends_beyond (Included hi) hi ≡ false
some_byte [] some = absurd (some refl)
some_byte (b ∷ bs) some = ap (λ z. not (not z)) (upto-refl (b ∷ bs))

not_within : (aim : Bound Key) (hi : Key) → (hi ≡ []) ⊎ (is_up_to aim hi ≡ false) → ends_beyond aim hi ≡ true
not_within aim [] k = refl
not_within aim (b ∷ bs) (inl e) = absurd (off e)
  where
    off : b ∷ bs ≡ [] → ⊥
    off e = cc
not_within aim (b ∷ bs) (inr e) = ap not e

-- what ends beyond the leaf's end ended beyond the aim under which the leaf lies
still_beyond : (aim : Bound Key) (hi end : Key) → is_up_to aim hi ≡ false → ends_beyond (Included hi) end ≡ true → ends_beyond aim end ≡ true
still_beyond aim hi [] off e = refl
still_beyond aim hi (b ∷ bs) off e = ap not (beyond aim hi (b ∷ bs) (upto-below hi (b ∷ bs) (behind_key (b ∷ bs) hi (not_true (is_up_to (Included hi) (b ∷ bs)) e))) off)

still_before : (aim : Bound Key) (lo at : Key) → is_up_to aim lo ≡ true → is_up_to (Excluded lo) at ≡ true → is_up_to aim at ≡ true
still_before aim lo at on e = go (is_up_to aim at) refl
  where
    go : (b : Bool) → is_up_to aim at ≡ b → is_up_to aim at ≡ true
    go true s = s
    go false s = true_false (sym on ∙ beyond aim at lo (upto-below at lo (is_less _ e)) s)

-- behind a leaf that stands as it was read there is one leaf less
behind_fewer : (m : Snapshot) (w : Forest) (t : Tree) (number : ℕ) (aim : Bound Key) (a : Giving) (back : Bool) → m.numbers t ≡ Some number → IsActing m w t number aim a.leaf → IsUnchanged m.state a.leaf → (back ≡ false → a.leaf.node.hi ≢ [])
    → leaves_ahead m w t back (bound_behind a.leaf.node back) + 1 ≤ leaves_ahead m w t back aim
behind_fewer m w t number aim a true named k here more =
    count_fewer (λ p. lies_ahead true (Excluded a.leaf.node.lo) (nodes_at m p)) (λ p. lies_ahead true aim (nodes_at m p)) (w.chain (place t 0)) a.leaf.pid
    (fresh_in k.seen (record { page = record { version = a.leaf.version; node = a.leaf.node }; live = here; same = refl }) named)
    (ap (lies_ahead true (Excluded a.leaf.node.lo)) (node_of m.state a.leaf here) ∙ ap is_lt (tied_itself key_total a.leaf.node.lo))
    (ap (lies_ahead true aim) (node_of m.state a.leaf here) ∙ k.under.0) (λ p i e. less (nodes_at m p) e)
  where
    less : (o : Option Node) → lies_ahead true (Excluded a.leaf.node.lo) o ≡ true → lies_ahead true aim o ≡ true
    less None e = e
    less (Some n) e = still_before aim a.leaf.node.lo n.lo k.under.0 e
behind_fewer m w t number aim a false named k here more =
    count_fewer (λ p. lies_ahead false (Included a.leaf.node.hi) (nodes_at m p)) (λ p. lies_ahead false aim (nodes_at m p)) (w.chain (place t 0)) a.leaf.pid
    (fresh_in k.seen (record { page = record { version = a.leaf.version; node = a.leaf.node }; live = here; same = refl }) named)
    (ap (lies_ahead false (Included a.leaf.node.hi)) (node_of m.state a.leaf here) ∙ some_byte a.leaf.node.hi (more refl))
    (ap (lies_ahead false aim) (node_of m.state a.leaf here) ∙ not_within aim a.leaf.node.hi k.under.1) (λ p i e. less (nodes_at m p) e)
  where
    off : is_up_to aim a.leaf.node.hi ≡ false
    off = elim k.under.1 [ inl e ↦ absurd (more refl e) | inr e ↦ e ]

    less : (o : Option Node) → lies_ahead false (Included a.leaf.node.hi) o ≡ true → lies_ahead false aim o ≡ true
    less None e = e
    less (Some n) e = still_beyond aim a.leaf.node.hi n.hi off e

-- a scan that sets out from the root has no more steps than it had at its leaf
pub sets_out : {m : Snapshot} {w : Forest} (is : HasForest m w) (j : Course) (number : ℕ) (a : Giving) (r : Range) (n : ℕ) → m.numbers j.tree.name ≡ Some number → IsActing m w j.tree.name number j.aim a.leaf → (r.back ≡ false → a.leaf.node.hi ≢ [])
    → is_moving_as (Some r) m w j n (stage.Give a) → (k : ℕ) × (k ≤ n) × is_moving_as (Some r) m w (record j { aim = bound_behind a.leaf.node r.back }) k stage.Root
sets_out {m} {w} is j number a r n named k more moving = (
  root_steps m j + behind * (root_steps m j + 1),
  go moving,
  (root_steps m j, inl (le_refl _), le_refl _),
)
  where
    behind : ℕ
    behind = leaves_ahead m w j.tree.name r.back (bound_behind a.leaf.node r.back)

    one_less : (x y s : ℕ) → x + 1 ≤ y → s + x * (s + 1) ≤ y * (s + 1)
    one_less x y s l = sum _ _ _ (suc-mul x (s + 1)) (times (s + 1) (suc x) y (omega (arith, l)))
      where
        sum : (p q z : ℕ) → p ≡ q + (s + 1) → p ≤ z → s + q ≤ z
        sum p q z e u = omega arith

    all : (x y s : ℕ) → x ≤ y → s + x * (s + 1) ≤ s + y * (s + 1)
    all x y s l = sum _ _ (times (s + 1) x y l)
      where
        sum : (p q : ℕ) → p ≤ q → s + p ≤ s + q
        sum p q u = omega arith

    go : is_moving_as (Some r) m w j n (stage.Give a) → root_steps m j + behind * (root_steps m j + 1) ≤ n
    go (inl x) = le_trans (one_less _ _ (root_steps m j) (behind_fewer m w j.tree.name number j.aim a r.back named k x.0 more)) x.1
    go (inr x) = let root = is.rooted j.tree.name number named in le_trans (all _ _ (root_steps m j) (few_leaves is j.tree.name root.0 root.1 r.back (bound_behind a.leaf.node r.back))) x

-- whatever the stage of a call is, it has so many steps
pub moving_any : (numbers : Tree → Option ℕ) (given : ℕ → Bool) (s : Store) (w : Forest) → HasForest (snapshot_of s numbers given) w → (f : Flight) → IsUnderWay numbers given s w f → IsMoving (snapshot_of s numbers given) w f (most_ahead (range_of f.course.call) (tree_pages (now s) f.course.tree.name))
moving_any numbers given s w is f u = go (range_of f.course.call) refl f.stage (record { named = u.named; knows = u.knows; halves = u.halves })
  where
    m : Snapshot
    m = snapshot_of s numbers given

    j : Course
    j = f.course

    root : (r : ℕ) × ((now s).roots j.tree.name ≡ Some r)
    root = is.rooted j.tree.name j.tree.number u.named

    three : (p : ℕ) → 2 * p + 2 + 1 ≡ 2 * p + 3
    three p = omega arith

    at_leaf : (p : ℕ) → (2 * p + 2) + p * (2 * p + 2 + 1) ≤ p * (2 * p + 3) + (4 * p + 8)
    at_leaf p = sum _ _ (ap (λ z. p * z) (three p))
      where
        sum : (x y : ℕ) → x ≡ y → (2 * p + 2) + x ≤ y + (4 * p + 8)
        sum x y e = omega arith

    on_way : (p l : ℕ) → l ≤ p → (4 * p + 8) + l * (2 * p + 2 + 1) ≤ p * (2 * p + 3) + (4 * p + 8)
    on_way p l u = sum _ _ _ (times (2 * p + 2 + 1) l p u) (ap (λ z. p * z) (three p))
      where
        sum : (x y z : ℕ) → x ≤ y → y ≡ z → (4 * p + 8) + x ≤ z + (4 * p + 8)
        sum x y z a e = omega arith

    scans : (r : Range) (a : Stage) → IsOnItsWay a → IsUnderWay numbers given s w (flight j a) → (k : ℕ) × IsGoing m w j k a × (k + leaf_steps m w j r ≤ most_ahead (Some r) (tree_pages (now s) j.tree.name))
    scans r a way u = (4 * tree_pages (now s) j.tree.name + 8, going_any numbers given s w is (flight j a) u way, on_way _ _ (few_leaves is j.tree.name root.0 root.1 r.back j.aim))

    keys : (a : Stage) → IsOnKey j.call → changes_at j a → IsOnItsWay a
    keys (stage.Give a) on_key c = c on_key
    keys other on_key c = tt

    go : (o : Option Range) → range_of j.call ≡ o → (a : Stage) → IsUnderWay numbers given s w (flight j a) → is_moving_as o m w j (most_ahead o (tree_pages (now s) j.tree.name)) a
    go None e a u = going_any numbers given s w is (flight j a) u (keys a e u.knows.1)
    go (Some r) e (stage.Give a) u = inr (at_leaf _)
    go (Some r) e other u = scans r other tt u

module _ (numbers : Tree → Option ℕ) (given : ℕ → Bool) (old new : Store) (w v : Forest) where
  abbrev m : Snapshot
  m = snapshot_of old numbers given

  abbrev m' : Snapshot
  m' = snapshot_of new numbers given

  -- while no page of a tree changes, the same leaves lie ahead
  leaves_same : {j : Course} {n : ℕ} {b : Stage} → IsStill numbers given old new w v j n b → (i : Course) → numbers i.tree.name ≡ Some i.tree.number → (r : Range) → leaf_steps m' v i r ≡ leaf_steps m w i r
  leaves_same k i named r =
      ap (λ z. leaves_ahead m' v i.tree.name r.back i.aim * (2 * z + 2 + 1)) (k.pages i.tree.name i.tree.number named)
      ∙ ap (λ z. z * (root_steps m i + 1)) (ap (λ (z : Forest). leaves_ahead m' z i.tree.name r.back i.aim) k.forest
      ∙ count_same (λ p. lies_ahead r.back i.aim (nodes_at m' p)) (λ p. lies_ahead r.back i.aim (nodes_at m p)) (w.chain (place i.tree.name 0)) (λ p x. ap (lies_ahead r.back i.aim) (k.nodes (place i.tree.name 0) p x)))

  -- .. and another call has the steps that it had
  pub still_moves : {j : Course} {n : ℕ} {b : Stage} → IsStill numbers given old new w v j n b → (f : Flight) → IsUnderWay numbers given old w f → (k : ℕ) → IsMoving m w f k → IsMoving m' v f k
  still_moves still f u k moving = go (range_of f.course.call) f.stage (record { named = u.named; knows = u.knows; halves = u.halves }) moving
    where
      i : Course
      i = f.course

      all : (x y c : ℕ) → x ≡ y → (2 * y + 2) + y * (2 * y + 2 + 1) ≤ c → (2 * x + 2) + x * (2 * x + 2 + 1) ≤ c
      all x y c e l = subst (λ z. (2 * z + 2) + z * (2 * z + 2 + 1) ≤ c) (sym e) l

      go : (o : Option Range) (a : Stage) → IsUnderWay numbers given old w (flight i a) → is_moving_as o m w i k a → is_moving_as o m' v i k a
      go None a u x = still.keeps (flight i a) u k x
      go (Some r) (stage.Give a) u (inl x) = elim (still.keeps (flight i (stage.Give a)) u 0 (inl x.0)) [
        | inl here ↦ inl (here, subst (λ z. z ≤ k) (sym (leaves_same still i u.named r)) x.1)
        | inr e ↦ absurd e
      ]
      go (Some r) (stage.Give a) u (inr x) = inr (all _ _ k (still.pages i.tree.name i.tree.number u.named) x)
      go (Some r) other u x = (x.0, still.keeps (flight i other) u x.0 x.1, subst (λ z. x.0 + z ≤ k) (sym (leaves_same still i u.named r)) x.2)

  -- A step by which a call goes on: no page of a tree changes, and the call has fewer steps then; or a page changes
  abbrev Comes : Course → Option Range → ℕ → Stage → Stage → Type 0
  Comes j o n a b = ((x : ℕ) × IsStill numbers given old new w v j x b × (ahead : ℕ) × (ahead < n) × is_moving_as o m' v j ahead b)
      ⊎ (is_calm b × (Repairs m m' w j.tree.name ⊎ ((x : Merge) × (a ≡ stage.Intend x) × Takes m m' w j.tree.name x)))

  pub moving_steps : HasForest m w → HasForest m' v → (j : Course) (n : ℕ) (a b : Stage) → IsUnderWay numbers given old w (flight j a) → GoesOnAlone numbers given j old a w new b v → (a ≡ stage.Root → is_up_to j.aim [] ≡ true) → IsMoving m w (flight j a) n → Comes j (range_of j.call) n a b
  moving_steps is is_new j n a b u l low moving = go (range_of j.call) a u l low moving
    where
      scans : (r : Range) (a : Stage) → IsUnderWay numbers given old w (flight j a) → GoesOnAlone numbers given j old a w new b v → (a ≡ stage.Root → is_up_to j.aim [] ≡ true) → (k : ℕ) × IsGoing m w j k a × (k + leaf_steps m w j r ≤ n) → Comes j (Some r) n a b
      scans r a u l low x = elim (steps numbers given old new w v is is_new j x.0 a b u l low x.1) [
        | inl s ↦ inl (x.0, s, s.ahead + leaf_steps m w j r, less s.ahead (leaf_steps m w j r) s.fewer, arrives s b s.going)
        | inr c ↦ inr c
      ]
        where
          less : (h z : ℕ) → h < x.0 → h + leaf_steps m w j r < n
          less h z y = omega (arith, x.2)

          arrives : (s : IsStill numbers given old new w v j x.0 b) (c : Stage) → IsGoing m' v j s.ahead c → is_moving_as (Some r) m' v j (s.ahead + leaf_steps m w j r) c
          arrives s (stage.Give g) (inl here) = inl (here, within _ _ (leaves_same s j u.named r))
            where
              within : (p q : ℕ) → p ≡ q → p ≤ s.ahead + q
              within p q e = omega arith
          arrives s (stage.Give g) (inr none) = absurd none
          arrives s other going = (s.ahead, going, within _ _ (leaves_same s j u.named r))
            where
              within : (p q : ℕ) → p ≡ q → s.ahead + p ≤ s.ahead + q
              within p q e = omega arith

      go : (o : Option Range) (a : Stage) → IsUnderWay numbers given old w (flight j a) → GoesOnAlone numbers given j old a w new b v → (a ≡ stage.Root → is_up_to j.aim [] ≡ true) → is_moving_as o m w j n a → Comes j o n a b
      go None a u l low x = elim (steps numbers given old new w v is is_new j n a b u l low x) [
        | inl s ↦ inl (n, s, s.ahead, s.fewer, s.going)
        | inr c ↦ inr c
      ]
      go (Some r) (stage.Give a) u l low x = absurd l.follows.is
      go (Some r) other u l low x = scans r other u l low x
