-- What a call is at between two of its steps stays so while a page comes or goes that no tree has.
use Rattle.std.proofs.Common.{◌≡◌, ◌≢◌, ℕ, suc, ◌+◌, ◌*◌, ◌≤◌, Option, Some, option_map, sym, refl, ap, ◌∙◌, subst, inl, inr, ◌⊎◌}
use Rattle.std.specs.declared.ops.Bound.{Bound}
use Rattle.sled_nodes.specs.Order.{Key}
use Rattle.sled_store.specs.In.{In}
use Rattle.sled_store.specs.State.{State, nodes_of, PageBecomes, after}
use Rattle.sled_store.specs.theory.Facts.{put_elsewhere}
use Rattle.sled_store.specs.declared.page.Page.{Page}
use Rattle.sled_store.specs.declared.page.View.{View}
use Rattle.tree_laws.specs.Forest.{Tree, Forest, Place, place}
use Rattle.tree_laws.specs.Paths.{tree_pages}
use Rattle.tree_laws.specs.Snapshot.{Snapshot, nodes_at, HasForest, IsOrphan, SeenOpen, IsAtVersion}
use Rattle.tree_laws.specs.Stages.{IsStage, IsPlace, IsMerger, child_of}
use Rattle.tree_laws.specs.declared.flight.Merge.{Merge}
use Rattle.tree_laws.specs.declared.flight.Posting.{Posting}
use Rattle.tree_laws.specs.declared.flight.Posting.TheVariants as posting
use Rattle.tree_laws.specs.declared.flight.Reached.{Reached}
use Rattle.tree_laws.specs.declared.flight.Reached.TheVariants as reached
use Rattle.tree_laws.specs.declared.flight.Stage.{Stage}
use Rattle.tree_laws.specs.declared.flight.Stage.TheVariants as stage
use Rattle.tree_laws.proofs.Cover.{later_in}
use Rattle.tree_laws.proofs.Known.{fresh_in}
use Rattle.tree_laws.proofs.Stable.{now_law}
use Rattle.sled_tree.specs.Course.{Course}
use Rattle.sled_tree.specs.Passing.{IsUnchanged}
use Rattle.tree_progress.proofs.Drifting.{IsAdrift, IsOnWay, root_steps, is_near}
use Rattle.tree_progress.proofs.Fresh.{IsAbove, IsOverNow, fresh_reached, fresh_posting, IsFresh, IsMergingNow}
use Rattle.tree_progress.proofs.Seeking.{child_at}

-- A call that is to make a page a merging child has so many steps, whatever that page is by now; and any other sees pages as they are, or
-- is soon at the root
abbrev pub IsGoing : Snapshot → Forest → Course → ℕ → Stage → Type 0
IsGoing m w j n (stage.Intend a) = IsFresh m w j n (stage.Intend a) ⊎ (root_steps m j + 1 ≤ n)
IsGoing m w j n other = IsOnWay m w j n other

-- .. and one that is on its way does so
pub on_way_goes : (m : Snapshot) (w : Forest) (j : Course) (n : ℕ) (a : Stage) → IsOnWay m w j n a → IsGoing m w j n a
on_way_goes m w j n (stage.Intend a) (inl k) = inl k
on_way_goes m w j n (stage.Intend a) (inr k) = inr k.0
on_way_goes m w j n other k = k

-- A page q comes or goes that is no tree's; the forest is the same
module _ (m : Snapshot) (w : Forest) (is : HasForest m w) (m' : Snapshot) (q : ℕ) (o : Option Page) (e : m'.state ≡ after (PageBecomes q o) m.state) (stray : IsOrphan w q) (j : Course) (number : ℕ) (named : m.numbers j.tree.name ≡ Some number) (counts : tree_pages m'.state j.tree.name ≡ tree_pages m.state j.tree.name) where
  abbrev t : Tree
  t = j.tree.name

  off_chain : (x : Place) (p : ℕ) → In p (w.chain x) → p ≢ q
  off_chain x p i s = stray x (subst (λ z. w.home z ≡ Some x) s (is.formed.homed x p i))

  off_home : (x : Place) (p : ℕ) → w.home p ≡ Some x → p ≢ q
  off_home x p i s = stray x (subst (λ z. w.home z ≡ Some x) s i)

  stays : (look : View) → look.pid ≢ q → IsUnchanged m.state look → IsUnchanged m'.state look
  stays look off k = ap (λ (s : State). s.pages look.pid) e ∙ put_elsewhere m.state.pages q look.pid o off ∙ k

  node_same : (p : ℕ) → p ≢ q → nodes_at m' p ≡ nodes_at m p
  node_same p off = ap (λ (s : State). nodes_of s p) e ∙ ap (option_map (λ (g : Page). g.node)) (put_elsewhere m.state.pages q p o off)

  roots_same : (r : ℕ) → m.state.roots t ≡ Some r → m'.state.roots t ≡ Some r
  roots_same r k = ap (λ (s : State). s.roots t) e ∙ k

  at_version : (look : View) → IsUnchanged m.state look → IsAtVersion m look
  at_version look k = record { page = record { version = look.version; node = look.node }; live = k; same = refl }

  -- an open page of a level that stands as it was read
  seen_off : (h : ℕ) (look : View) → SeenOpen m w (place t h) number look → IsUnchanged m.state look → look.pid ≢ q
  seen_off h look k here = off_chain (place t h) look.pid (fresh_in k (at_version look here) named)

  merger_off : (h c : ℕ) (look : View) → IsMerger m w t number h c look → IsUnchanged m.state look → look.pid ≢ q
  merger_off h c look k here = off_chain (place t (suc h)) look.pid (now_law m w (place t (suc h)) number look.node.lo look.pid k.stood named look.node (ap (option_map (λ (g : Page). g.node)) here) k.not_merging).0

  above_stays : (h : ℕ) (parent : View) → IsAbove m w t h parent → IsAbove m' w t h parent
  above_stays h parent k = record { now = stays parent (off_chain (place t (suc h)) parent.pid k.chained) k.now; chained = k.chained }

  over_stays : (h : ℕ) (aim : Bound Key) (parent : View) (lo : Key) → IsOverNow m w t h aim parent lo → IsOverNow m' w t h aim parent lo
  over_stays h aim parent lo k = record { above = above_stays h parent k.above; is_open = k.is_open; under = k.under; low = k.low; last = k.last }

  reached_stays : (h : ℕ) (aim : Bound Key) (by : Reached) (lo : Key) (p : ℕ) → fresh_reached m w t h aim by lo p → fresh_reached m' w t h aim by lo p
  reached_stays h aim reached.Root lo p k = roots_same p k
  reached_stays h aim (reached.FirstPointer parent) lo p k = over_stays h aim parent lo k
  reached_stays h aim (reached.LaterPointer parent) lo p k = (over_stays h aim parent lo k.0, k.1)
  reached_stays h aim (reached.Next parent) lo p k = (over_stays h aim parent lo k.0, k.1)

  posting_stays : (h : ℕ) (page : View) (at : Key) (posts : Posting) → IsPlace m w t number h page posts → fresh_posting m.state t page.pid at posts → fresh_posting m'.state t page.pid at posts
  posting_stays h page at (posting.Parent parent) s k = (stays parent (seen_off (suc h) parent s.0.seen k.0) k.0, k.1, k.2)
  posting_stays h page at posting.Root s k = roots_same page.pid k
  posting_stays h page at posting.Nowhere s k = tt

  merging_stays : (h : ℕ) (a : Merge) → IsMergingNow m w t h a → IsMergingNow m' w t h a
  merging_stays h a k = record { above = above_stays h a.parent k.above; child = k.child; before = k.before }

  child_off : (h : ℕ) (a : Merge) → IsMergingNow m w t h a → a.child ≢ q
  child_off h a k = off_home (place t h) a.child (child_at is j h a k).2.homed

  fewer : (x : ℕ) → tree_pages m.state t * 2 ≤ x → tree_pages m'.state t * 2 ≤ x
  fewer x l = subst (λ z. z * 2 ≤ x) (sym counts) l

  pub fresh_stays : (n : ℕ) (a : Stage) → IsStage m w t number j.aim a → IsFresh m w j n a → IsFresh m' w j n a
  fresh_stays n stage.Root s k = subst (λ z. 2 * z + 2 ≤ n) (sym counts) k
  fresh_stays n (stage.Walk a) s k = (
    k.0,
    record {
      height = k.1.height;
      here = record { chained = k.1.here.chained; live = node_same a.cursor (off_chain (place t k.1.height) a.cursor k.1.here.chained) ∙ k.1.here.live; awake = k.1.here.awake };
      begins = k.1.begins;
      is_reached = reached_stays k.1.height j.aim a.reached k.0.lo a.cursor k.1.is_reached;
      ahead = k.1.ahead;
      is_ahead = k.1.is_ahead;
      few = k.1.few;
    },
  )
  fresh_stays n (stage.Act v) s k = stays v (seen_off 0 v s.0.seen k) k
  fresh_stays n (stage.Give a) s k = stays a.leaf (seen_off 0 a.leaf s.seen k) k
  fresh_stays n (stage.Split a) s k = (k.0, stays a.page (seen_off s.height a.page s.seen k.1) k.1, k.2, k.3, posting_stays s.height a.page _ a.posting s.posted k.4)
  fresh_stays n (stage.InstallLeft a) s k = (stays a.page (seen_off s.height a.page s.seen k.0) k.0, posting_stays s.height a.page _ a.posting s.posted k.1)
  fresh_stays n (stage.Post a) s k = (stays a.parent (seen_off (suc s.height) a.parent s.above.seen k.0) k.0, k.1)
  fresh_stays n (stage.Hoist a) s k = (k.0, roots_same a.left k.1)
  fresh_stays n (stage.SwapRoot a) s k = roots_same a.old k
  fresh_stays n (stage.Free a) s k = subst (λ z. 2 * z + 3 ≤ n) (sym counts) k
  fresh_stays n (stage.Intend a) s k =
      let u = s.under named (at_version a.parent k.above.now) in
      let off = off_chain (place t s.height) a.child u.chained in
      record { height = k.height; above = above_stays k.height a.parent k.above; small = λ d there. k.small d (sym (node_same a.child off) ∙ there); before = k.before }
  fresh_stays n (stage.Child a) s k = record { height = k.height; merging = merging_stays k.height a k.merging; few = k.few }
  fresh_stays n (stage.Cap a) s k = record { height = k.height; merging = merging_stays k.height a.merge k.merging; child = stays (child_of a) (child_off k.height a.merge k.merging) k.child }
  fresh_stays n (stage.Seek a) s k = (
    k.0,
    record {
      height = k.1.height;
      merging = merging_stays k.1.height a.merge k.1.merging;
      child = node_same a.merge.child (child_off k.1.height a.merge k.1.merging) ∙ k.1.child;
      here = record { chained = k.1.here.chained; live = node_same a.cursor (off_chain (place t k.1.height) a.cursor k.1.here.chained) ∙ k.1.here.live; awake = k.1.here.awake };
      low = k.1.low;
      before = k.1.before;
      ahead = k.1.ahead;
      is_ahead = k.1.is_ahead;
      few = k.1.few;
    },
  )
  fresh_stays n (stage.Receive a) s k = (stays a.left (seen_off s.height a.left s.seen k.0) k.0, stays a.merge.parent (merger_off s.height a.merge.child a.merge.parent s.merging.merger k.1) k.1, k.2)
  fresh_stays n (stage.Confirm a) s k = stays a.parent (merger_off s.height a.child a.parent s.merger k) k

  room : (k n : ℕ) → root_steps m j + k ≤ n → root_steps m' j + k ≤ n
  room k n l = subst (λ z. 2 * z + 2 + k ≤ n) (sym counts) l

  rooms : (k n : ℕ) → root_steps m j + 2 * tree_pages m.state t + k ≤ n → root_steps m' j + 2 * tree_pages m'.state t + k ≤ n
  rooms k n l = subst (λ z. (2 * z + 2) + 2 * z + k ≤ n) (sym counts) l

  near : (n p : ℕ) → is_near m w j n p → is_near m' w j n p
  near n p k h i = let a = k h i in (a.0, a.1, subst (λ z. 2 * a.0 + 4 + (2 * z + 2) ≤ n) (sym counts) a.2)

  -- .. but for one that is to make a page a merging child
  pub adrift_stays : (n : ℕ) (a : Stage) → IsStage m w t number j.aim a → IsAdrift m w j n a → IsGoing m' w j n a
  adrift_stays n stage.Root s k = absurd k
  adrift_stays n (stage.Walk a) s k = inr (room 1 n k.0, near n a.cursor k.1)
  adrift_stays n (stage.Act v) s k = inr (room 1 n k)
  adrift_stays n (stage.Give a) s k = absurd k
  adrift_stays n (stage.Split a) s k = inr (room 3 n k)
  adrift_stays n (stage.InstallLeft a) s k = inr (room 2 n k)
  adrift_stays n (stage.Post a) s k = inr (room 1 n k)
  adrift_stays n (stage.Hoist a) s k = inr (room 3 n k)
  adrift_stays n (stage.SwapRoot a) s k = inr (room 2 n k)
  adrift_stays n (stage.Free a) s k = absurd k
  adrift_stays n (stage.Intend a) s k = inr (room 1 n k.0)
  adrift_stays n (stage.Child a) s k = inr (rooms 5 n k)
  adrift_stays n (stage.Cap a) s (inl k) =
      let up = s.wanted named (at_version (child_of a) k) in
      let b = is.formed.child (place t (suc s.height)) up.parent up.node up.chained up.live a.merge.child up.child in
      inr (inl (stays (child_of a) (off_home (place t s.height) a.merge.child (is.formed.pointer t s.height up.parent up.node up.chained up.live b.0 a.merge.child (later_in up.node.content b.0 a.merge.child b.1)).homed) k))
  adrift_stays n (stage.Cap a) s (inr k) = inr (inr (rooms 6 n k))
  adrift_stays n (stage.Seek a) s k = inr (room 2 n k.0, near n a.cursor k.1)
  adrift_stays n (stage.Receive a) s (inl k) = inr (inl (stays a.left (seen_off s.height a.left s.seen k) k))
  adrift_stays n (stage.Receive a) s (inr k) = inr (inr (rooms 5 n k))
  adrift_stays n (stage.Confirm a) s k = inr (room 1 n k)

  way_stays : (n : ℕ) (a : Stage) → IsStage m w t number j.aim a → IsOnWay m w j n a → IsGoing m' w j n a
  way_stays n a s (inl k) = on_way_goes m' w j n a (inl (fresh_stays n a s k))
  way_stays n a s (inr k) = adrift_stays n a s k

  intent_stays : (n : ℕ) (a : Merge) → IsStage m w t number j.aim (stage.Intend a) → IsFresh m w j n (stage.Intend a) ⊎ (root_steps m j + 1 ≤ n) → IsGoing m' w j n (stage.Intend a)
  intent_stays n a s (inl k) = inl (fresh_stays n (stage.Intend a) s k)
  intent_stays n a s (inr k) = inr (room 1 n k)

  pub going_stays : (n : ℕ) (a : Stage) → IsStage m w t number j.aim a → IsGoing m w j n a → IsGoing m' w j n a
  going_stays n (stage.Intend a) s k = intent_stays n a s k
  going_stays n other s k = way_stays n other s k
