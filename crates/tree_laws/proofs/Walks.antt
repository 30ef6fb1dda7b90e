-- What follows where the walk has read a page.
use Rattle.std.proofs.Common.{◌≡◌, ◌≢◌, ℕ, suc, ◌≤◌, Bool, true, false, List, [], Option, Some, None, option_map, sym, refl, ap, ◌∙◌, subst, inl, inr}
use Rattle.std.specs.FinMap.Entries.{find}
use Rattle.std.specs.declared.ops.Bound.{Bound}
use Rattle.sled_nodes.proofs.Basics.{none_some, some_is}
use Rattle.sled_store.specs.In.{In}
use Rattle.sled_nodes.specs.Among.{IsBefore, is_up_to}
use Rattle.sled_nodes.specs.Node.{Covers, pairs, pointers, count, value_at}
use Rattle.sled_nodes.specs.Order.{Key, key_cmp, Below}
use Rattle.sled_store.specs.State.{Nodes}
use Rattle.sled_nodes.specs.declared.node.Node.{Node}
use Rattle.sled_nodes.specs.declared.node.Data.TheVariants.{Leaf, Index}
use Rattle.sled_store.specs.declared.page.Page.{Page}
use Rattle.tree_laws.specs.Forest.{Tree, Forest, Place, place, Holds, WellFormed, contents, later}
use Rattle.sled_store.specs.declared.page.View.{View}
use Rattle.tree_laws.specs.Snapshot.{Snapshot, HasForest, nodes_at, StoodInChain, IsOpen, HasRoomForOne, SeenOpen, LiesUnder, IsActing}
use Rattle.tree_laws.specs.Stages.{parent_of, by_pointer, IsBelowParent, IsReached, IsWalking, IsSplitting, IsPosting, IsHoisting, IsUnder, IsIntending, IsMerging}
use Rattle.tree_laws.specs.theory.Stages.{IsHere}
use Rattle.tree_laws.specs.declared.flight.Reached.{Reached}
use Rattle.tree_laws.specs.declared.flight.Reached.TheVariants as reached
use Rattle.tree_laws.specs.declared.flight.Walk.{Walk}
use Rattle.tree_laws.specs.declared.flight.Posting.TheVariants as posting
use Rattle.tree_laws.proofs.Order.{upto-below, upto_below-trans, within_below}
use Rattle.tree_laws.proofs.Runs.{In_split}
use Rattle.tree_laws.proofs.Cover.{parted, pointer_within, holds_at}
use Rattle.tree_laws.proofs.Inside.{behind}
use Rattle.tree_laws.proofs.Reading.{find_law}
use Rattle.tree_laws.proofs.Stable.{now_law}
use Rattle.tree_laws.proofs.Known.{as_page, stands_here, view_here, seen_here, root_in, leaf_low, index_high}

-- a page with a next page has rising bounds
pub rises_at : {nodes : Nodes} {roots : Tree → Option ℕ} {w : Forest} (f : WellFormed nodes roots w) (x : Place) (p q : ℕ) (n : Node) → In p (w.chain x) → nodes p ≡ Some n → n.next ≡ Some q → Below n.lo n.hi
rises_at {nodes} {roots} {w} f x p q n i live next =
    let s = In_split (w.chain x) p i in
    elim (parted f x p n s.0 s.1 s.2 live).1 [
      | inl e ↦ none_some (sym e ∙ next)
      | inr b ↦ b
    ]

-- where a pointer leads stood in the chain below
pub pointer_stood : {m : Snapshot} {w : Forest} → HasForest m w → (t : Tree) (number h p : ℕ) (n : Node) (k : Key) (c : ℕ) → m.numbers t ≡ Some number → In p (w.chain (place t (suc h))) → nodes_at m p ≡ Some n → In (k, c) (pointers n.content) → StoodInChain m w (place t h) number k c
pointer_stood {m} is t number h p n k c named i live j =
    let f = is.formed in
    let a = f.pointer t h p n i live k c j in
    let b = f.page (place t h) c a.homed in
    let g = as_page m c b.0 b.1.live in
    record { page = is.pids c g.0 g.1; tree = is.given t number named; now = inr (inr (b.0, b.1.live, ap (λ (z : Node). z.lo) (some_is (sym b.1.live ∙ a.live)) ∙ a.key, b.1.stands)) }

-- a page that stood with this lo and is live has it
pub lo_now : {m : Snapshot} {w : Forest} {x : Place} {number p : ℕ} {lo : Key} → StoodInChain m w x number lo p → m.numbers x.tree ≡ Some number → (n : Node) → nodes_at m p ≡ Some n → lo ≡ n.lo
lo_now k named n live = elim k.now [
  | inl e ↦ absurd (e named)
  | inr b ↦ elim b [ inl e ↦ none_some (sym e ∙ live) | inr a ↦ sym a.2 ∙ ap (λ (z : Node). z.lo) (some_is (sym a.1 ∙ live)) ]
]

-- the root, as it is read
pub root_here : {m : Snapshot} {w : Forest} → HasForest m w → (t : Tree) (number : ℕ) (aim : Bound Key) (look : View) → m.numbers t ≡ Some number → m.state.roots t ≡ Some look.pid → m.state.pages look.pid ≡ Some (record { version = look.version; node = look.node })
    → IsHere m w t number aim look reached.Root
root_here {m} {w} is t number aim look named root live =
    let r = root_in is.formed t look.pid root in
    let node_is : r.1 ≡ look.node = some_is (sym r.3 ∙ ap (option_map (λ (z : Page). z.node)) live) in
    let lo_is : r.1.lo ≡ look.node.lo = ap (λ (z : Node). z.lo) node_is in
    record {
      height = r.0;
      live = live;
      named = named;
      stood = subst (λ l. StoodInChain m w (place t r.0) number l look.pid) lo_is (stands_here is (place t r.0) number look.pid r.1 named r.2 r.3);
      is_reached = sym lo_is ∙ r.4;
    }

-- the cursor, as it is read
pub cursor_here : {m : Snapshot} {w : Forest} → HasForest m w → (t : Tree) (number : ℕ) (aim : Bound Key) (a : Walk) (look : View) → m.numbers t ≡ Some number → IsWalking m w t number aim a → look.pid ≡ a.cursor → m.state.pages look.pid ≡ Some (record { version = look.version; node = look.node })
    → IsHere m w t number aim look a.reached
cursor_here {m} {w} is t number aim a look named k at live =
    let stood : StoodInChain m w (place t k.height) number k.lo look.pid = subst (λ p. StoodInChain m w (place t k.height) number k.lo p) (sym at) k.stood in
    let lo_is : k.lo ≡ look.node.lo = lo_now stood named look.node (ap (option_map (λ (z : Page). z.node)) live) in
    record {
      height = k.height;
      live = live;
      named = named;
      stood = subst (λ l. StoodInChain m w (place t k.height) number l look.pid) lo_is stood;
      is_reached = subst (λ l. IsReached m w t number k.height aim a.reached l look.pid) lo_is (subst (λ p. IsReached m w t number k.height aim a.reached k.lo p) (sym at) k.is_reached);
    }

-- where a page with a merging child was read, and its pointer is not the first, a merge begins
pub merge_begins : {m : Snapshot} {w : Forest} → HasForest m w → (t : Tree) (number h c before : ℕ) (look : View) (es : List (Key × ℕ)) (k low : Key) → m.numbers t ≡ Some number
    → In look.pid (w.chain (place t (suc h))) → m.state.pages look.pid ≡ Some (record { version = look.version; node = look.node })
    → look.node.merging ≡ false → look.node.merging_child ≡ Some c → look.node.content ≡ Index es → In (k, c) (pointers look.node.content) → In (low, before) (pointers look.node.content) → Below low k → IsMerging m w t number h (record { parent = look; child = c; before = before })
merge_begins {m} is t number h c before look es k low named i live not_merging child content ci bi below =
    let node : nodes_at m look.pid ≡ Some look.node = ap (option_map (λ (z : Page). z.node)) live in
    let c_stood = pointer_stood is t number h look.pid look.node k c named i node ci in
    record {
      merger = record {
        view = view_here is look.pid look.version look.node live;
        stood = stands_here is (place t (suc h)) number look.pid look.node named i node;
        not_merging = not_merging;
        child = child;
        es = es;
        content = content;
      };
      wanted = record { page = c_stood.page; tree = is.given t number named; now = inr (inr (inr (record { parent = look.pid; node = look.node; chained = i; live = node; child = child }))) };
      lo = k;
      low = low;
      c_stood = c_stood;
      left_stood = pointer_stood is t number h look.pid look.node low before named i node bi;
      below = below;
    }

module _ {m : Snapshot} {w : Forest} {t : Tree} {number : ℕ} {aim : Bound Key} {look : View} {by : Reached} (is : HasForest m w) (here : IsHere m w t number aim look by) (calm : IsOpen look.node) where
  here_node : nodes_at m look.pid ≡ Some look.node
  here_node = ap (option_map (λ (z : Page). z.node)) here.live

  -- it stands in its chain
  here_in : In look.pid (w.chain (place t here.height))
  here_in = (now_law m w (place t here.height) number look.node.lo look.pid here.stood here.named look.node here_node calm.not_merging).0

  here_seen : SeenOpen m w (place t here.height) number look
  here_seen = seen_here is (place t here.height) number look here.named here.live here_in calm

  here_under : (parent : View) → Covers parent.node look.node.lo → IsUnder m w (place t here.height) parent look.node.lo look.pid
  here_under parent within = record { covers = within; node = look.node; chained = here_in; live = here_node; lo = refl; not_merging = calm.not_merging }

  -- the page behind it
  here_next : (q : ℕ) → look.node.hi ≢ [] → look.node.next ≡ Some q → (e : Node) × In q (w.chain (place t here.height)) × (nodes_at m q ≡ Some e) × (e.lo ≡ look.node.hi)
  here_next q more next = elim (behind is.formed (place t here.height) look.pid look.node here_in here_node) [
    | inl e ↦ absurd (more e)
    | inr a ↦
        let same : a.0 ≡ q = some_is (sym a.5 ∙ next) in
        (a.1, subst (λ z. In z (w.chain (place t here.height))) same a.2, ap (nodes_at m) (sym same) ∙ a.3, a.4)
  ]

  here_rises : (q : ℕ) → look.node.next ≡ Some q → Below look.node.lo look.node.hi
  here_rises q next = rises_at is.formed (place t here.height) look.pid q look.node here_in here_node next

  -- it lies below the parent through which it was reached
  here_below : (by : Reached) (p : View) → parent_of by ≡ Some p → IsReached m w t number here.height aim by look.node.lo look.pid → IsBelowParent m w t number here.height aim p look.node.lo
  here_below reached.Root p e k = none_some e
  here_below (reached.FirstPointer parent) p e k = subst (λ z. IsBelowParent m w t number here.height aim z look.node.lo) (some_is e) k
  here_below (reached.LaterPointer parent) p e k = subst (λ z. IsBelowParent m w t number here.height aim z look.node.lo) (some_is e) k.0
  here_below (reached.Next parent) p e k = subst (λ z. IsBelowParent m w t number here.height aim z look.node.lo) (some_is e) k.0

  -- or is the root
  here_root : (by : Reached) → parent_of by ≡ None → IsReached m w t number here.height aim by look.node.lo look.pid → look.node.lo ≡ []
  here_root reached.Root e k = k
  here_root (reached.FirstPointer parent) e k = none_some (sym e)
  here_root (reached.LaterPointer parent) e k = none_some (sym e)
  here_root (reached.Next parent) e k = none_some (sym e)

  -- it is to be split, and its right half is posted at the parent
  pub to_split_below : (p : View) → parent_of by ≡ Some p → IsSplitting m w t number (record { page = look; posting = posting.Parent p })
  to_split_below p e = let b = here_below by p e here.is_reached in record { height = here.height; seen = here_seen; posted = (b.above, b.within, b.fits) }

  pub to_split_root : parent_of by ≡ None → IsSplitting m w t number (record { page = look; posting = posting.Root })
  to_split_root e = record { height = here.height; seen = here_seen; posted = here_root by e here.is_reached }

  -- the aim lies further on: the walk goes to the next page
  pub to_next : (parent : View) (q : ℕ) → parent_of by ≡ Some parent → look.node.hi ≢ [] → is_up_to aim look.node.hi ≡ true → look.node.next ≡ Some q → IsWalking m w t number aim (record { cursor = q; reached = reached.Next parent })
  to_next parent q e more further next =
      let a = here_next q more next in
      let b = here_below by parent e here.is_reached in
      let on : Below parent.node.lo look.node.hi = upto_below-trans parent.node.lo look.node.lo look.node.hi b.within.0 (here_rises q next) in
      record {
        height = here.height;
        lo = look.node.hi;
        stood = subst (λ l. StoodInChain m w (place t here.height) number l q) a.3 (stands_here is (place t here.height) number q a.0 here.named a.1 a.2);
        is_reached = (
          record {
            above = b.above;
            under = b.under;
            within = (upto-below parent.node.lo look.node.hi on, elim b.under.1 [ inl e ↦ inl e | inr c ↦ inr (within_below aim look.node.hi parent.node.hi further c) ]);
            fits = b.fits;
          },
          on,
        );
      }

  -- or a new root is to come over the root and the next page
  pub to_hoisting : (q : ℕ) → parent_of by ≡ None → look.node.hi ≢ [] → look.node.next ≡ Some q → IsHoisting m w t number (record { left = look.pid; at = look.node.hi; right = q })
  to_hoisting q e more next =
      let a = here_next q more next in
      let lo_is = here_root by e here.is_reached in
      record {
        height = here.height;
        stood = subst (λ l. StoodInChain m w (place t here.height) number l look.pid) lo_is here.stood;
        beyond = subst (λ l. Below l look.node.hi) lo_is (here_rises q next);
        beside = λ named root. (a.0, a.1, a.2, a.3);
      }

  -- it has no pointer yet: it is to be posted
  pub to_posting : (parent : View) → by ≡ reached.Next parent → IsPosting m w t number (record { parent = parent; at = look.node.lo; pid = look.pid })
  to_posting parent e =
      let b = subst (λ z. IsReached m w t number here.height aim z look.node.lo look.pid) e here.is_reached in
      record { height = here.height; above = b.0.above; fits = b.0.fits; beyond = b.1; under = λ named fresh. here_under parent b.0.within }

  -- it should merge, and was reached by a later pointer: it is to become the merging child
  pub to_intending : (parent : View) (before : ℕ) → by ≡ reached.LaterPointer parent → count look.node.content ≤ 17 → IsBefore look.pid (pointers parent.node.content) before
      → IsIntending m w t number (record { parent = parent; child = look.pid; before = before })
  to_intending parent before e fits is_before =
      let b = subst (λ z. IsReached m w t number here.height aim z look.node.lo look.pid) e here.is_reached in
      record {
        height = here.height;
        above = b.0.above;
        key = look.node.lo;
        pointer = b.1;
        under = λ named fresh. here_under parent b.0.within;
        small = λ named fresh d live. subst (λ (z : Node). count z.content ≤ 17) (some_is (sym here_node ∙ live)) fits;
        before = is_before;
      }

  -- it lies under the aim and is a leaf
  pub to_acting : (es : List (Key × Key)) → look.node.content ≡ Leaf es → LiesUnder aim look.node → IsActing m w t number aim look
  to_acting es leaf under =
      let low = leaf_low here.height look.node.lo look.node.hi es (subst (λ c. Holds here.height look.node.lo look.node.hi c) leaf here_seen.sound.holds) in
      record { seen = subst (λ h. SeenOpen m w (place t h) number look) low here_seen; under = under; es = es; content = leaf }

  -- or an index: the walk goes down
  pub to_child : (es : List (Key × ℕ)) (l : Key) (c : ℕ) (is_first : Bool) → look.node.content ≡ Index es → LiesUnder aim look.node → HasRoomForOne look → In (l, c) es → (is_first ≡ false → In (l, c) (later es)) → IsWalking m w t number aim (record { cursor = c; reached = by_pointer look is_first })
  to_child es l c is_first index under fits j further =
      let up = index_high here.height look.node.lo look.node.hi es (subst (λ d. Holds here.height look.node.lo look.node.hi d) index here_seen.sound.holds) in
      let i : In look.pid (w.chain (place t (suc up.0))) = subst (λ h. In look.pid (w.chain (place t h))) up.1 here_in in
      let ci : In (l, c) (pointers look.node.content) = subst (λ d. In (l, c) (pointers d)) (sym index) j in
      let b : IsBelowParent m w t number up.0 aim look l = record {
        above = record { seen = subst (λ h. SeenOpen m w (place t h) number look) up.1 here_seen; es = es; content = index };
        under = under;
        within = pointer_within up.0 look.node.lo look.node.hi look.node.content (holds_at is.formed (place t (suc up.0)) look.pid look.node i here_node) l c ci;
        fits = fits;
      } in
      record { height = up.0; lo = l; stood = pointer_stood is t number up.0 look.pid look.node l c here.named i here_node ci; is_reached = go is_first up.0 further b }
    where
      go : (is_first : Bool) (h : ℕ) → (is_first ≡ false → In (l, c) (later es)) → IsBelowParent m w t number h aim look l → IsReached m w t number h aim (by_pointer look is_first) l c
      go true h further b = b
      go false h further b = (b, subst (λ d. In (l, c) (later (pointers d))) (sym index) (further refl))

  -- what a leaf that covers a key has at it is what the tree has at it
  pub here_answers : (es : List (Key × Key)) (key : Key) → look.node.content ≡ Leaf es → Covers look.node key → find key_cmp key (contents (nodes_at m) w t) ≡ value_at look.node.content key
  here_answers es key leaf covers =
      let low = leaf_low here.height look.node.lo look.node.hi es (subst (λ c. Holds here.height look.node.lo look.node.hi c) leaf here_seen.sound.holds) in
      let i : In look.pid (w.chain (place t 0)) = subst (λ h. In look.pid (w.chain (place t h))) low here_in in
      find_law (nodes_at m) m.state.roots w is.formed t look.pid look.node key i here_node covers ∙ ap (λ c. find key_cmp key (pairs c)) leaf ∙ sym (ap (λ c. value_at c key) leaf)
