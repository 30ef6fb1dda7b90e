-- A call that sees pages as they are now reads a page of its walk: it ends, or goes on with fewer steps.
use Rattle.std.proofs.Common.{◌≡◌, ℕ, zero, suc, ◌+◌, ◌*◌, ◌≤◌, ◌<◌, Bool, true, false, List, [], ◌∷◌, length, Option, Some, None, option_map, sym, refl, ap, ◌∙◌, subst, inl, inr, ◌⊎◌, arith}
use Rattle.sled_nodes.proofs.Basics.{none_some, some_is, true_false}
use Rattle.sled_nodes.specs.Among.{is_up_to, IsPointer, IsPointerBefore, IsPointerFor}
use Rattle.sled_nodes.specs.Halves.{right_half}
use Rattle.sled_nodes.specs.Node.{pointers, count, Within}
use Rattle.sled_nodes.specs.Order.{Key, Below, UpTo}
use Rattle.sled_nodes.specs.Ranges.{Range}
use Rattle.sled_nodes.specs.declared.node.Data.{Data}
use Rattle.sled_nodes.specs.declared.node.Data.TheVariants.{Leaf, Index}
use Rattle.sled_nodes.specs.declared.node.Node.{Node}
use Rattle.sled_store.specs.In.{In}
use Rattle.sled_store.specs.State.{State}
use Rattle.sled_store.specs.declared.page.Page.{Page}
use Rattle.sled_store.specs.declared.page.View.{View}
use Rattle.sled_model.specs.State.{range_of}
use Rattle.sled_model.specs.declared.reply.Reply.{Reply}
use Rattle.tree_laws.specs.Forest.{Tree, Forest, Place, place, Holds, later}
use Rattle.tree_laws.specs.Paths.{pages_below, IsAhead}
use Rattle.tree_laws.specs.Snapshot.{Snapshot, nodes_at, HasForest, IsOpen, LiesUnder}
use Rattle.tree_laws.specs.Stages.{parent_of, by_pointer}
use Rattle.tree_laws.specs.declared.flight.Reached.{Reached}
use Rattle.tree_laws.specs.declared.flight.Reached.TheVariants as reached
use Rattle.tree_laws.specs.declared.flight.Posting.TheVariants as posting
use Rattle.tree_laws.specs.declared.flight.Stage.TheVariants as stage
use Rattle.tree_laws.proofs.Before.{before_child_law, leads_down_law}
use Rattle.tree_laws.proofs.Cover.{holds_at, child_below, pointer_within}
use Rattle.tree_laws.proofs.Halving.{halved_law}
use Rattle.tree_laws.proofs.Known.{sound_at, index_high}
use Rattle.tree_laws.proofs.Looking.{pointer_in, next_in, next_some, ahead_next, ahead_down, last_in}
use Rattle.tree_laws.proofs.Order.{upto-below, upto-trans, upto_below-trans, below_irrefl, within_below}
use Rattle.tree_laws.proofs.Walks.{rises_at}
use Rattle.sled_tree.specs.Change.{reply_at}
use Rattle.sled_tree.specs.Course.{Course}
use Rattle.sled_tree.specs.Follows.{ResumesMerge, EndsWithin, resumed, begun, onward, down, done_at, posting_of, follows_read, follows_not_merging, follows_open, follows_here, follows_content, follows_leaf_as}
use Rattle.sled_tree.specs.Passing.{IsUnchanged}
use Rattle.sled_tree.specs.declared.flight.Sequel.{Sequel}
use Rattle.sled_tree.specs.declared.flight.Sequel.TheVariants.{Go}
use Rattle.tree_progress.proofs.Below.{up_to_last, awake_under, takes_at, takes_within, has_before}
use Rattle.tree_progress.proofs.Fresh.{IsOverNow, IsComing, fresh_reached, fresh_posting, toward}

pub node_of : (s : State) (v : View) → IsUnchanged s v → option_map (λ (z : Page). z.node) (s.pages v.pid) ≡ Some v.node
node_of s v e = ap (option_map (λ (z : Page). z.node)) e

module _ {m : Snapshot} {w : Forest} (is : HasForest m w) (j : Course) where
  abbrev t : Tree
  t = j.tree.name

  abbrev chain : ℕ → List ℕ
  chain h = w.chain (place t h)

  -- the pages below a level are fewer than those ahead of a page of it
  pub fewer : (h p ahead : ℕ) → IsAhead w t h p ahead → suc (pages_below w t h) ≤ ahead
  fewer h p ahead a = sum ahead (length a.behind) (pages_below w t h) a.count
    where
      sum : (x l b : ℕ) → x ≡ suc l + b → suc b ≤ x
      sum x l b e = omega arith

  -- a half-done merge goes on
  pub resumes : (h n : ℕ) (look : View) (c : ℕ) (next : Sequel) → IsUnchanged m.state look → In look.pid (chain h) → look.node.merging_child ≡ Some c → 2 * pages_below w t h + 3 < n → ResumesMerge look c next → toward m w j n next
  resumes zero n look c next now i has l r = let b = child_below is.formed (place t 0) look.pid look.node c i (node_of m.state look now) has in absurd (low b.0 (ap (λ (z : Place). z.height) b.1))
    where
      low : (h : ℕ) → 0 ≡ suc h → ⊥
      low h e = omega arith
  resumes (suc g) n look c next now i has l r = subst (λ z. toward m w j n z) (sym r.is) (go r.before r.is_before)
    where
      go : (o : Option ℕ) → IsPointerBefore c (pointers look.node.content) o → toward m w j n (resumed look c o)
      go None none = let b = (before_child_law (nodes_at m) m.state.roots w is.formed t g look.pid look.node c i (node_of m.state look now) has).0 in absurd (none b.0 b.1)
      go (Some b) k = (2 * pages_below w t (suc g) + 3, l, record { height = g; merging = record { above = record { now = now; chained = i }; child = has; before = k }; few = same _ })
        where
          same : (x : ℕ) → x ≤ x
          same x = omega arith

  module _ (n : ℕ) (look : View) (now : IsUnchanged m.state look) where
    abbrev node : Node
    node = look.node

    live : nodes_at m look.pid ≡ Some node
    live = node_of m.state look now

    -- down from an index
    lower : (h ahead : ℕ) → In look.pid (chain h) → IsAhead w t h look.pid ahead → 2 * ahead + 2 ≤ n → IsOpen node → LiesUnder j.aim node → (es : List (Key × ℕ)) → node.content ≡ Index es → (o : Option (ℕ × Bool)) → IsPointerFor j.aim es o → toward m w j n (down look o)
    lower zero ahead i a few calm under es index o last =
        let g = index_high 0 node.lo node.hi es (subst (λ d. Holds 0 node.lo node.hi d) index (holds_at is.formed (place t 0) look.pid node i live)) in absurd (low g.0 g.1)
      where
        low : (g : ℕ) → 0 ≡ suc g → ⊥
        low g e = omega arith
    lower (suc g) ahead i a few calm under es index None last =
        true_false (sym (leads_down_law g node j.aim es (sound_at is.formed (place t (suc g)) look.pid node i live) index under.0) ∙ last)
    lower (suc g) ahead i a few calm under es index (Some c) last = go c.0 c.1 last
      where
        go : (c : ℕ) (b : Bool) → IsPointer j.aim es c b → toward m w j n (Go (stage.Walk (record { cursor = c; reached = by_pointer look b })))
        go c b k =
            let at = last_in k in
            let in_all : In (k.key, c) (pointers node.content) = subst (λ d. In (k.key, c) (pointers d)) (sym index) at.0 in
            let d = pointer_in is.formed t g look.pid node k.key c i live in_all (λ e. none_some (sym calm.free ∙ e)) in
            let holds = holds_at is.formed (place t (suc g)) look.pid node i live in
            let within = pointer_within g node.lo node.hi node.content holds k.key c in_all in
            let next = ahead_down is.formed t g look.pid c ahead a d.1 in
            let over : IsOverNow m w t g j.aim look d.0.lo = record {
              above = record { now = now; chained = i };
              is_open = calm;
              under = under;
              low = subst (λ z. UpTo node.lo z) (sym d.3) within.0;
              last = λ key x x_in up. subst (λ z. UpTo key z) (sym d.3) (up_to_last j.aim es c b (subst (λ z. Holds (suc g) node.lo node.hi z) index holds).0 k key x (subst (λ z. In (key, x) (pointers z)) index x_in) up);
            } in (
              2 * next.0 + 2,
              less next.0 next.1,
              (
                d.0,
                record {
                  height = g;
                  here = record { chained = d.1; live = d.2; awake = awake_under is.formed t g look.pid c node d.0 i live (λ e. none_some (sym calm.free ∙ e)) d.1 d.2 (subst (λ z. Within node.lo node.hi z) (sym d.3) within) };
                  begins = ap (is_up_to j.aim) d.3 ∙ k.last.passed;
                  is_reached = reach b over (λ e. subst (λ z. In (z, c) (later (pointers node.content))) (sym d.3) (subst (λ z. In (k.key, c) (later (pointers z))) (sym index) (at.1 e)));
                  ahead = next.0;
                  is_ahead = next.2;
                  few = same _;
                },
              ),
            )
          where
            reach : {lo : Key} (b : Bool) → IsOverNow m w t g j.aim look lo → (b ≡ false → In (lo, c) (later (pointers node.content))) → fresh_reached m w t g j.aim (by_pointer look b) lo c
            reach true u at = u
            reach false u at = (u, at refl)

            less : (k : ℕ) → k < ahead → 2 * k + 2 < n
            less k l = omega arith

            same : (x : ℕ) → x ≤ x
            same x = omega arith

    -- what is to be done at a page that nothing is to be repaired at
    pub content : (h ahead : ℕ) → In look.pid (chain h) → IsAhead w t h look.pid ahead → 2 * ahead + 2 ≤ n → IsOpen node → LiesUnder j.aim node → (next : Sequel) → (d : Data) → node.content ≡ d → follows_content d j look next → toward m w j n next
    content h ahead i a few calm under next (Index es) e k = subst (λ z. toward m w j n z) (sym k.is) (lower h ahead i a few calm under es e k.found (subst (λ d. IsPointerFor j.aim (pointers d) k.found) e k.is_last))
    content h ahead i a few calm under next (Leaf es) e k = go (range_of j.call) k
      where
        some : 0 < n
        some = omega (arith, few)

        done : (o : Option Reply) → toward m w j n (done_at look o)
        done None = (0, some, now)
        done (Some reply) = tt

        go : (o : Option Range) → follows_leaf_as o j look next → toward m w j n next
        go None k = elim k [
          | inl g ↦ subst (λ z. toward m w j n z) (sym g) (done (reply_at j.call node.content))
          | inr g ↦ subst (λ z. toward m w j n z) (sym g) tt
        ]
        go (Some range) k = subst (λ z. toward m w j n z) (sym k) (0, some, now)

  module _ (n : ℕ) (look : View) (by : Reached) (now : IsUnchanged m.state look) (p : IsComing m w t j.aim n look.pid look.node by) where
    abbrev page : Node
    page = look.node

    there : nodes_at m look.pid ≡ Some page
    there = node_of m.state look now

    enough : 4 ≤ n
    enough = sum _ _ (fewer p.height look.pid p.ahead p.is_ahead) p.few
      where
        sum : (b a : ℕ) → suc b ≤ a → 2 * a + 2 ≤ n → 4 ≤ n
        sum b a u v = omega arith

    two : 2 < n
    two = omega (arith, enough)

    one : 1 < n
    one = omega (arith, enough)

    -- the next page
    along : (parent : View) → IsOverNow m w t p.height j.aim parent page.lo → (q : ℕ) → page.next ≡ Some q → is_up_to j.aim page.hi ≡ true → toward m w j n (onward look (Some q) (Some parent))
    along parent u q next up =
        let d = next_in is.formed (place t p.height) look.pid q page p.here.chained there next in
        let rise : Below page.lo page.hi = rises_at is.formed (place t p.height) look.pid q page p.here.chained there next in
        let rises : Below page.lo d.0.lo = subst (λ z. Below page.lo z) (sym d.3) rise in
        let up_next : is_up_to j.aim d.0.lo ≡ true = ap (is_up_to j.aim) d.3 ∙ up in
        let low : UpTo parent.node.lo d.0.lo = upto-trans parent.node.lo page.lo d.0.lo u.low (upto-below page.lo d.0.lo rises) in
        let within : Within parent.node.lo parent.node.hi d.0.lo = (low, elim u.under.1 [ inl e ↦ inl e | inr off ↦ inr (within_below j.aim d.0.lo parent.node.hi up_next off) ]) in
        let a = ahead_next is.formed t p.height look.pid q p.ahead page p.is_ahead there next in (
          2 * a.0 + 2,
          less a.0 a.1,
          (
            d.0,
            record {
              height = p.height;
              here = record { chained = d.1; live = d.2; awake = awake_under is.formed t p.height parent.pid q parent.node d.0 u.above.chained (node_of m.state parent u.above.now) (λ e. none_some (sym u.is_open.free ∙ e)) d.1 d.2 within };
              begins = up_next;
              is_reached = (record { above = u.above; is_open = u.is_open; under = u.under; low = low; last = λ k c i e. upto-below k d.0.lo (upto_below-trans k page.lo d.0.lo (u.last k c i e) rises) }, λ k c i e. upto_below-trans k page.lo d.0.lo (u.last k c i e) rises);
              ahead = a.0;
              is_ahead = a.2;
              few = same _;
            },
          ),
        )
      where
        less : (k : ℕ) → k < p.ahead → 2 * k + 2 < n
        less k l = sum k p.ahead l p.few
          where
            sum : (k a : ℕ) → k < a → 2 * a + 2 ≤ n → 2 * k + 2 < n
            sum k a l u = omega arith

        same : (x : ℕ) → x ≤ x
        same x = omega arith

    goes_on : (by : Reached) → fresh_reached m w t p.height j.aim by page.lo look.pid → (q : ℕ) → page.next ≡ Some q → is_up_to j.aim page.hi ≡ true → toward m w j n (onward look (Some q) (parent_of by))
    goes_on reached.Root r q e up = (2, two, (twos, r))
      where
        twos : 2 ≤ 2
        twos = omega arith
    goes_on (reached.FirstPointer parent) r q e up = along parent r q e up
    goes_on (reached.LaterPointer parent) r q e up = along parent r.0 q e up
    goes_on (reached.Next parent) r q e up = along parent r.0 q e up

    -- a long page
    at_half : 16 < count page.content → IsOpen page → Below page.lo (right_half page).lo × Within page.lo page.hi (right_half page).lo
    at_half long calm =
        let s = (halved_law page 0 (more _ long)).split p.height (sound_at is.formed (place t p.height) look.pid page p.here.chained there) calm in
        (s.apart, s.within)
      where
        more : (x : ℕ) → 16 < x → 2 ≤ x
        more x l = omega arith

    room : (parent : View) → IsOverNow m w t p.height j.aim parent page.lo → 16 < count page.content → IsOpen page → fresh_posting m.state t look.pid (right_half page).lo (posting.Parent parent)
    room parent u long calm = (
      u.above.now,
      λ e. next_up p.height (ap (λ (z : Place). z.height) (some_is (sym (is.formed.homed (place t (suc p.height)) parent.pid u.above.chained) ∙ ap w.home e ∙ is.formed.homed (place t p.height) look.pid p.here.chained))),
      takes_within is.formed t p.height parent.pid look.pid parent.node page (right_half page).lo u.above.chained (node_of m.state parent u.above.now) u.is_open.free p.here.chained there (at_half long calm).0 (at_half long calm).1,
    )
      where
        next_up : (h : ℕ) → suc h ≡ h → ⊥
        next_up h e = omega arith

    posted : (by : Reached) → fresh_reached m w t p.height j.aim by page.lo look.pid → 16 < count page.content → IsOpen page → fresh_posting m.state t look.pid (right_half page).lo (posting_of (parent_of by))
    posted reached.Root r long calm = r
    posted (reached.FirstPointer parent) r long calm = room parent r long calm
    posted (reached.LaterPointer parent) r long calm = room parent r.0 long calm
    posted (reached.Next parent) r long calm = room parent r.0 long calm

    at_content : IsOpen page → LiesUnder j.aim page → (next : Sequel) → follows_content page.content j look next → toward m w j n next
    at_content calm under next k = content n look now p.height p.ahead p.here.chained p.is_ahead p.few calm under next page.content refl k

    -- a small page merges
    merges : (parent : View) → IsOverNow m w t p.height j.aim parent page.lo → In (page.lo, look.pid) (later (pointers parent.node.content)) → count page.content ≤ 3 → (o : Option ℕ) → IsPointerBefore look.pid (pointers parent.node.content) o → toward m w j n (begun parent look.pid o)
    merges parent u at few None off = let b = has_before is.formed t p.height parent.pid parent.node page.lo look.pid u.above.chained (node_of m.state parent u.above.now) u.is_open at in absurd (off b.0 b.1)
    merges parent u at few (Some b) k = (1, one, record { height = p.height; above = u.above; small = λ d is. subst (λ (z : Node). count z.content ≤ 3) (some_is (sym there ∙ is)) few; before = k })

    here : IsOpen page → LiesUnder j.aim page → (next : Sequel) → (by : Reached) → fresh_reached m w t p.height j.aim by page.lo look.pid → follows_here j look by next → toward m w j n next
    here calm under next reached.Root r k = at_content calm under next k
    here calm under next (reached.FirstPointer parent) r k = at_content calm under next k
    here calm under next (reached.LaterPointer parent) r k = elim k [
      | inl a ↦ subst (λ z. toward m w j n z) (sym a.1.is) (merges parent r.0 r.1 a.0.1 a.1.before a.1.is_before)
      | inr b ↦ at_content calm under next b.1
    ]
    here calm under next (reached.Next parent) r k = elim k [
      | inl g ↦ subst (λ z. toward m w j n z) (sym g) (1, one, (r.0.above.now, takes_at is.formed t p.height parent.pid parent.node page.lo r.0.above.chained (node_of m.state parent r.0.above.now) (λ c i. below_irrefl page.lo (r.1 page.lo c i p.begins))))
      | inr g ↦ subst (λ z. toward m w j n z) (sym g) tt
    ]

    -- a page that begins within the aim and does not end within it lies under it
    lies : (EndsWithin page j.aim → ⊥) → LiesUnder j.aim page
    lies off = (p.begins, go page.hi refl (is_up_to j.aim page.hi) refl)
      where
        go : (hi : Key) → page.hi ≡ hi → (b : Bool) → is_up_to j.aim page.hi ≡ b → (page.hi ≡ []) ⊎ (is_up_to j.aim page.hi ≡ false)
        go [] e b g = inl e
        go (x ∷ xs) e false g = inr g
        go (x ∷ xs) e true g = absurd (off ((λ z. some_byte (sym e ∙ z)), g))
          where
            some_byte : x ∷ xs ≡ [] → ⊥
            some_byte z = cc

    opened : IsOpen page → (next : Sequel) → follows_open j look by next → toward m w j n next
    opened calm next k = elim k [
      | inl a ↦ subst (λ z. toward m w j n z) (sym a.1) (2, two, (twos, now, a.0, calm, posted by p.is_reached a.0 calm))
      | inr b ↦ elim b.1 [
        | inl c ↦
            let q = next_some is.formed (place t p.height) look.pid page p.here.chained there c.0.0 in
            elim c.1 [
              | inl g ↦ subst (λ z. toward m w j n z) (sym (g ∙ ap (λ o. onward look o (parent_of by)) q.1)) (goes_on by p.is_reached q.0 q.1 c.0.1)
              | inr g ↦ subst (λ z. toward m w j n z) (sym g) tt
            ]
        | inr d ↦ elim d.1 [
          | inl u ↦ here calm u.0 next by p.is_reached u.1
          | inr off ↦ absurd (off.0 (lies d.0))
        ]
      ]
    ]
      where
        twos : 2 ≤ 2
        twos = omega arith

    pub arrives : (next : Sequel) → follows_read j look by next → toward m w j n next
    arrives next k = elim k [
      | inl a ↦ true_false (sym a.0 ∙ awake)
      | inr b ↦ go page.merging_child refl b.1
    ]
      where
        awake : page.merging ≡ false
        awake = p.here.awake

        room_below : 2 * pages_below w t p.height + 3 < n
        room_below = sum _ _ (fewer p.height look.pid p.ahead p.is_ahead) p.few
          where
            sum : (b a : ℕ) → suc b ≤ a → 2 * a + 2 ≤ n → 2 * b + 3 < n
            sum b a u v = omega arith

        go : (o : Option ℕ) → page.merging_child ≡ o → follows_not_merging o j look by next → toward m w j n next
        go (Some c) e r = resumes p.height n look c next now p.here.chained e room_below r
        go None e r = opened (record { not_merging = awake; free = e }) next r
