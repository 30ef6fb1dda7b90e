-- A call that sees pages as they are now reads the child of a merge, or a page before it: it goes on with fewer steps.
use Rattle.std.proofs.Common.{◌≡◌, ◌≢◌, ℕ, suc, ◌+◌, ◌*◌, ◌≤◌, ◌<◌, true, false, is_gt, List, Option, Some, None, sym, refl, ap, ◌∙◌, subst, inl, inr, ◌⊎◌, arith, Less, Equal, Greater}
use Rattle.std.specs.Ordering.{ordering_reverse}
use Rattle.std.specs.declared.cmp.Ordering.{Ordering}
use Rattle.sled_nodes.proofs.Basics.{some_is, true_false, key_total}
use Rattle.sled_nodes.specs.Node.{pointers, Within}
use Rattle.sled_nodes.specs.Order.{Key, key_cmp, Below, UpTo}
use Rattle.sled_nodes.specs.declared.node.Node.{Node}
use Rattle.sled_store.specs.In.{In}
use Rattle.sled_store.specs.declared.page.View.{View}
use Rattle.tree_laws.specs.Forest.{Tree, Forest, Place, place, later, IsPointer}
use Rattle.tree_laws.specs.Paths.{pages_below, IsAhead}
use Rattle.tree_laws.specs.Snapshot.{Snapshot, nodes_at, HasForest, IsOpen}
use Rattle.tree_laws.specs.declared.flight.Merge.{Merge}
use Rattle.tree_laws.specs.declared.flight.Seek.{Seek}
use Rattle.tree_laws.specs.declared.flight.Stage.TheVariants as stage
use Rattle.tree_laws.proofs.Before.{before_child_law}
use Rattle.tree_laws.proofs.Cover.{holds_at, later_in, pointer_within}
use Rattle.tree_laws.proofs.Halving.{before_child}
use Rattle.tree_laws.proofs.Known.{sound_at}
use Rattle.tree_laws.proofs.Looking.{next_in, next_some, ahead_next, ahead_at, ahead_few}
use Rattle.tree_laws.proofs.Order.{upto-below, upto-trans, below-trans, below_irrefl}
use Rattle.tree_laws.proofs.Walks.{rises_at}
use Rattle.sled_tree.specs.Course.{Course}
use Rattle.sled_tree.specs.Follows.{searched, ReachesTo, follows_met, follows_search, follows_cursor, follows_cursor_not_merging, follows_child, follows_child_not_merging}
use Rattle.sled_tree.specs.Passing.{IsUnchanged}
use Rattle.sled_tree.specs.declared.flight.Sequel.{Sequel}
use Rattle.sled_tree.specs.declared.flight.Sequel.TheVariants.{Go}
use Rattle.tree_progress.proofs.Below.{awake_under}
use Rattle.tree_progress.proofs.Fresh.{IsMergingNow, IsReadingNow, IsSeekingNow, toward}
use Rattle.tree_progress.proofs.Arriving.{node_of, fewer, resumes}

-- of two keys one is up to the other, or stands behind it
upto_or_below : (a b : Key) → UpTo a b ⊎ Below b a
upto_or_below a b = go (key_cmp a b) refl
  where
    go : (o : Ordering) → key_cmp a b ≡ o → UpTo a b ⊎ Below b a
    go Less e = inl (ap is_gt e)
    go Equal e = inl (ap is_gt e)
    go Greater e = inr (key_total.antisymm b a ∙ ap ordering_reverse e)

module _ {m : Snapshot} {w : Forest} (is : HasForest m w) (j : Course) where
  abbrev t : Tree
  t = j.tree.name

  abbrev chain : ℕ → List ℕ
  chain h = w.chain (place t h)

  -- the merging child of an index has its pointer, and begins there
  pub child_at : (h : ℕ) (a : Merge) (k : IsMergingNow m w t h a) → (key : Key) × In (key, a.child) (later (pointers a.parent.node.content)) × IsPointer (nodes_at m) w a.parent.node t h key a.child
  child_at h a k =
      let live = node_of m.state a.parent k.above.now in
      let c = is.formed.child (place t (suc h)) a.parent.pid a.parent.node k.above.chained live a.child k.child in
      (c.0, c.1, is.formed.pointer t h a.parent.pid a.parent.node k.above.chained live c.0 a.child (later_in a.parent.node.content c.0 a.child c.1))

  -- .. within the index
  pub child_within : (h : ℕ) (a : Merge) (k : IsMergingNow m w t h a) (d : Node) → nodes_at m a.child ≡ Some d → Within a.parent.node.lo a.parent.node.hi d.lo
  child_within h a k d there =
      let c = child_at h a k in
      let live = node_of m.state a.parent k.above.now in
      let key : c.0 ≡ d.lo = sym c.2.key ∙ ap (λ (z : Node). z.lo) (some_is (sym c.2.live ∙ there)) in
      subst (λ z. Within a.parent.node.lo a.parent.node.hi z) key (pointer_within h a.parent.node.lo a.parent.node.hi a.parent.node.content (holds_at is.formed (place t (suc h)) a.parent.pid a.parent.node k.above.chained live) c.0 a.child (later_in a.parent.node.content c.0 a.child c.1))

  -- so a page before it does not merge
  calm_before : (h : ℕ) (a : Merge) (k : IsMergingNow m w t h a) (d : Node) → nodes_at m a.child ≡ Some d → (q : ℕ) (e : Node) → In q (chain h) → nodes_at m q ≡ Some e → UpTo a.parent.node.lo e.lo → Below e.lo d.lo → e.merging ≡ false
  calm_before h a k d there q e i live low below =
      let within = child_within h a k d there in
      awake_under is.formed t h a.parent.pid q a.parent.node e k.above.chained (node_of m.state a.parent k.above.now)
      (λ g. let same : a.child ≡ q = some_is (sym k.child ∙ g) in below_irrefl d.lo (subst (λ (z : Node). Below z.lo d.lo) (some_is (sym live ∙ ap (nodes_at m) (sym same) ∙ there)) below))
      i live (low, elim within.1 [ inl g ↦ inl g | inr b ↦ inr (below-trans e.lo d.lo a.parent.node.hi below b) ])

  -- the search for the page before the child begins
  pub seeks_from : (h n version : ℕ) (a : Merge) (k : IsMergingNow m w t h a) (d : Node) → nodes_at m a.child ≡ Some d → 2 * pages_below w t (suc h) + 2 < n
      → toward m w j n (Go (stage.Seek (record { merge = a; version = version; node = d; cursor = a.before })))
  seeks_from h n version a k d there room =
      let live = node_of m.state a.parent k.above.now in
      let b = (before_child_law (nodes_at m) m.state.roots w is.formed t h a.parent.pid a.parent.node a.child k.above.chained live k.child).1 a.before k.before in
      let c = child_at h a k in
      let o = before_child (suc h) a.parent.node a.child a.before (sound_at is.formed (place t (suc h)) a.parent.pid a.parent.node k.above.chained live) k.before in
      let holds = holds_at is.formed (place t (suc h)) a.parent.pid a.parent.node k.above.chained live in
      let p = is.formed.pointer t h a.parent.pid a.parent.node k.above.chained live k.before.key a.child o.0 in
      let key : k.before.key ≡ d.lo = sym p.key ∙ ap (λ (z : Node). z.lo) (some_is (sym p.live ∙ there)) in
      let below : Below b.0.lo d.lo = subst (λ z. Below b.0.lo z) key (subst (λ z. Below z k.before.key) (sym b.3) b.4) in
      let low : UpTo a.parent.node.lo b.0.lo = subst (λ z. UpTo a.parent.node.lo z) (sym b.3) (pointer_within h a.parent.node.lo a.parent.node.hi a.parent.node.content holds k.before.low a.before o.1).0 in
      let ahead = ahead_at is.formed t h a.before b.1 in (
        2 * ahead.0 + 2,
        less ahead.0 (pages_below w t (suc h)) (ahead_few is.formed t h a.before ahead.0 ahead.1) room,
        (
          b.0,
          record {
            height = h;
            merging = k;
            child = there;
            here = record { chained = b.1; live = b.2; awake = calm_before h a k d there a.before b.0 b.1 b.2 low below };
            low = low;
            before = below;
            ahead = ahead.0;
            is_ahead = ahead.1;
            few = same _;
          },
        ),
      )
    where
      less : (x y : ℕ) → x ≤ y → 2 * y + 2 < n → 2 * x + 2 < n
      less x y u v = omega arith

      same : (x : ℕ) → x ≤ x
      same x = omega arith

  -- the child is read
  pub reads_child : (n : ℕ) (a : Merge) (k : IsReadingNow m w t n a) (look : View) (next : Sequel) → look.pid ≡ a.child → IsUnchanged m.state look → follows_child a look next → toward m w j n next
  reads_child n a k look next at now follows = elim follows [
    | inl e ↦ subst (λ z. toward m w j n z) (sym e.1) (seeks_from k.height n look.version a k.merging look.node there (more _ k.few))
    | inr b ↦ go look.node.merging_child refl b.0 b.1
  ]
    where
      there : nodes_at m a.child ≡ Some look.node
      there = ap (nodes_at m) (sym at) ∙ node_of m.state look now

      more : (x : ℕ) → 2 * x + 3 ≤ n → 2 * x + 2 < n
      more x l = omega arith

      one : (x : ℕ) → 2 * x + 3 ≤ n → 1 < n
      one x l = omega arith

      -- one that does not merge stands on the level below
      chained : (look.node.merging ≡ true → ⊥) → In look.pid (chain k.height)
      chained off =
          let c = child_at k.height a k.merging in
          let b = is.formed.page (place t k.height) a.child c.2.homed in
          subst (λ z. In z (chain k.height)) (sym at) (elim b.1.stands [ inl i ↦ i | inr e ↦ absurd (off (subst (λ (z : Node). z.merging ≡ true) (some_is (sym b.1.live ∙ there)) e)) ])

      below : (i : In look.pid (chain k.height)) → 2 * pages_below w t k.height + 3 < n
      below i =
          let a = ahead_at is.formed t k.height look.pid i in
          sum _ _ _ (fewer is j k.height look.pid a.0 a.1) (ahead_few is.formed t k.height look.pid a.0 a.1) k.few
        where
          sum : (b a u : ℕ) → suc b ≤ a → a ≤ u → 2 * u + 3 ≤ n → 2 * b + 3 < n
          sum b a u l l' l'' = omega arith

      go : (o : Option ℕ) → look.node.merging_child ≡ o → (look.node.merging ≡ true → ⊥) → follows_child_not_merging o a look next → toward m w j n next
      go (Some c) e off r = let i = chained off in resumes is j k.height n look c next now i e (below i) r
      go None e off r = subst (λ z. toward m w j n z) (sym r) (1, one _ k.few, record { height = k.height; merging = k.merging; child = subst (λ p. m.state.pages p ≡ Some (record { version = look.version; node = look.node })) at now })

  -- a page before the child is read
  pub reads_before : (n : ℕ) (a : Seek) (node : Node) (k : IsSeekingNow m w t n a node) (look : View) (next : Sequel) → look.pid ≡ a.cursor → IsUnchanged m.state look → follows_cursor a look next → toward m w j n next
  reads_before n a node k look next at now follows = elim follows [
    | inl e ↦ true_false (sym e.0 ∙ awake)
    | inr b ↦ go look.node.merging_child refl b.1
  ]
    where
      live : nodes_at m look.pid ≡ Some look.node
      live = node_of m.state look now

      same_node : node ≡ look.node
      same_node = some_is (sym k.here.live ∙ ap (nodes_at m) (sym at) ∙ live)

      awake : look.node.merging ≡ false
      awake = subst (λ (z : Node). z.merging ≡ false) same_node k.here.awake

      i : In look.pid (chain k.height)
      i = subst (λ z. In z (chain k.height)) (sym at) k.here.chained

      is_ahead : IsAhead w t k.height look.pid k.ahead
      is_ahead = subst (λ z. IsAhead w t k.height z k.ahead) (sym at) k.is_ahead

      low : UpTo a.merge.parent.node.lo look.node.lo
      low = subst (λ (z : Node). UpTo a.merge.parent.node.lo z.lo) same_node k.low

      before : Below look.node.lo a.node.lo
      before = subst (λ (z : Node). Below z.lo a.node.lo) same_node k.before

      room_below : 2 * pages_below w t k.height + 3 < n
      room_below = sum _ _ (fewer is j k.height look.pid k.ahead is_ahead) k.few
        where
          sum : (b a : ℕ) → suc b ≤ a → 2 * a + 2 ≤ n → 2 * b + 3 < n
          sum b a u v = omega arith

      two : 2 < n
      two = omega (arith, room_below)

      one : 1 < n
      one = omega (arith, room_below)

      twos : 2 ≤ 2
      twos = omega arith

      -- the page stands on another level than the index
      off : look.pid ≢ a.merge.parent.pid
      off e = next_up k.height (ap (λ (z : Place). z.height) (some_is (sym (is.formed.homed (place t (suc k.height)) a.merge.parent.pid k.merging.above.chained) ∙ ap w.home (sym e) ∙ is.formed.homed (place t k.height) look.pid i)))
        where
          next_up : (h : ℕ) → suc h ≡ h → ⊥
          next_up h e = omega arith

      met : IsOpen look.node → follows_met a look next → toward m w j n next
      met calm r = elim r [
        | inl e ↦ subst (λ z. toward m w j n z) (sym e.1) (2, two, (twos, now, e.0, calm, tt))
        | inr e ↦ subst (λ z. toward m w j n z) (sym e.1) (1, one, (now, k.merging.above.now, off))
      ]

      further : (ReachesTo look.node a.node.lo → ⊥) → next ≡ searched a look.node.next → toward m w j n next
      further short e =
          let q = next_some is.formed (place t k.height) look.pid look.node i live (λ z. short (inl z)) in
          let d = next_in is.formed (place t k.height) look.pid q.0 look.node i live q.1 in
          let rise : Below look.node.lo look.node.hi = rises_at is.formed (place t k.height) look.pid q.0 look.node i live q.1 in
          let rises : Below look.node.lo d.0.lo = subst (λ z. Below look.node.lo z) (sym d.3) rise in
          let ends : Below look.node.hi a.node.lo = elim (upto_or_below a.node.lo look.node.hi) [ inl u ↦ absurd (short (inr u)) | inr b ↦ b ] in
          let below : Below d.0.lo a.node.lo = subst (λ z. Below z a.node.lo) (sym d.3) ends in
          let low_next : UpTo a.merge.parent.node.lo d.0.lo = upto-trans a.merge.parent.node.lo look.node.lo d.0.lo low (upto-below look.node.lo d.0.lo rises) in
          let x = ahead_next is.formed t k.height look.pid q.0 k.ahead look.node is_ahead live q.1 in
          subst (λ z. toward m w j n z) (sym (e ∙ ap (searched a) q.1)) (
            2 * x.0 + 2,
            less x.0 x.1,
            (
              d.0,
              record {
                height = k.height;
                merging = k.merging;
                child = k.child;
                here = record { chained = d.1; live = d.2; awake = calm_before k.height a.merge k.merging a.node k.child q.0 d.0 d.1 d.2 low_next below };
                low = low_next;
                before = below;
                ahead = x.0;
                is_ahead = x.2;
                few = same _;
              },
            ),
          )
        where
          less : (x : ℕ) → x < k.ahead → 2 * x + 2 < n
          less x l = sum x k.ahead l k.few
            where
              sum : (x a : ℕ) → x < a → 2 * a + 2 ≤ n → 2 * x + 2 < n
              sum x a l u = omega arith

          same : (x : ℕ) → x ≤ x
          same x = omega arith

      search : IsOpen look.node → follows_search a look next → toward m w j n next
      search calm r = elim r [
        | inl e ↦ met calm e.1
        | inr b ↦ elim b.1 [
          | inl e ↦ subst (λ z. toward m w j n z) (sym e.1) (1, one, k.merging.above.now)
          | inr e ↦ further e.0 e.1
        ]
      ]

      go : (o : Option ℕ) → look.node.merging_child ≡ o → follows_cursor_not_merging o a look next → toward m w j n next
      go (Some c) e r = resumes is j k.height n look c next now i e room_below r
      go None e r = search (record { not_merging = awake; free = e }) r
