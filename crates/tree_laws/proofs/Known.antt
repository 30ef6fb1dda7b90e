-- What a call knows of a page that it read, and what follows while the page has its version.
use Rattle.std.proofs.Common.{◌≡◌, ℕ, zero, suc, ◌+◌, ◌≤◌, Bool, true, false, List, [], ◌∷◌, length, Option, Some, None, MatchOption, option_map, sym, refl, ap, ◌∙◌, subst, inl, inr, ◌⊎◌, arith, Less, Equal, Greater}
use Rattle.std.specs.FinMap.Entries.{find, put, by_order}
use Rattle.std.specs.declared.ops.Bound.{Bound}
use Rattle.std.specs.declared.ops.Bound.TheVariants.{Included}
use Rattle.sled_nodes.proofs.Basics.{none_some, some_is, false_true}
use Rattle.sled_store.specs.In.{In}
use Rattle.sled_nodes.specs.Order.{Key, key_cmp}
use Rattle.sled_nodes.specs.Node.{pairs, count, Covers, with_pair, value_at, without, after_link}
use Rattle.sled_store.specs.State.{State, Nodes, Action, PageBecomes, RootBecomes, nodes_of, after}
use Rattle.sled_store.specs.Update.{put_at, put_name}
use Rattle.sled_store.specs.Store.{Store, now, after_action, ActsAt, Allocates, AreGiven}
use Rattle.sled_store.specs.theory.Facts.{now_acted}
use Rattle.sled_nodes.specs.declared.node.Node.{Node}
use Rattle.sled_nodes.specs.declared.node.Data.{Data}
use Rattle.sled_nodes.specs.declared.node.Data.TheVariants.{Leaf, Index}
use Rattle.sled_store.specs.declared.page.Page.{Page}
use Rattle.tree_laws.specs.Forest.{Tree, Forest, Place, place, head, Holds, IsNodeAt, Run, WellFormed, IsSized, contents}
use Rattle.sled_store.specs.declared.page.View.{View}
use Rattle.tree_laws.specs.Snapshot.{Snapshot, snapshot_of, nodes_at, HasForest, IsReadAs, StoodInChain, IsOpen, IsAtVersion, HasRoomForOne, SeenOpen, LiesUnder, IsActing}
use Rattle.tree_laws.specs.theory.Snapshot.{Guarantee, GrowsByReceiving}
use Rattle.tree_laws.specs.theory.Action.{put_node}
use Rattle.tree_laws.specs.theory.Laws.{WriteLaw, EraseLaw, AnswerLaw, ActingLaw, IsAt, IsNodeNow, Changed, Written, StepsForest, after_replacement, after_allocation, after_free, after_creation, after_hoist, after_drop}
use Rattle.tree_laws.proofs.Order.{under_covers}
use Rattle.tree_laws.proofs.Replace.{head_in}
use Rattle.tree_laws.proofs.Cover.{holds_at}
use Rattle.tree_laws.proofs.Stable.{view_law, stood_law, now_law}
use Rattle.tree_laws.proofs.Leaf.{leaf_at, set_law, del_law}
use Rattle.tree_laws.proofs.Reading.{find_law}
use Rattle.tree_laws.proofs.States.{replace_law, nodes_replaced}
use Rattle.sled_nodes.specs.declared.link.Link.TheVariants.{Set, Del}

-- a call that does nothing
pub goes_same : (mine : List ℕ) (m : Snapshot) (w : Forest) → HasForest m w → Guarantee mine None m w m w
goes_same mine m w is = record {
  pids = λ p e. e;
  versions = λ p e. e;
  given = λ n e. e;
  gone = λ p e none. none;
  fresh = λ p g e. inl e;
  lasts = λ t n o e. e;
  dropped = λ t n e no. no;
  loses = λ t e. none_some e;
  rooted = λ t r e. inl e;
  own = λ p stray off. refl;
  frozen = λ p g e t. inl e;
  keeps = record {
    stood = λ x p n o i live. (n, live, refl, inl i);
    capped = λ p n live t. inl live;
    stray = λ p stray off. (refl, stray);
    left = λ x p n live t off i. off i;
    wakes = λ x p n m i was not_merging now t. let e : n ≡ m = some_is (sym was ∙ now) in false_true (sym (subst (λ (z : Node). z.merging ≡ false) e not_merging) ∙ t);
    child = λ x p c n o i live is. inl (i, (n, live, is));
  };
}

-- a group begins or ends
pub grouped : (b : Bool) (m : Snapshot) (w : Forest) → HasForest m w → let new : Snapshot = record m { state = record (m.state) { in_group = b } } in StepsForest [] None m w new w
grouped b m w is =
    let g = goes_same [] m w is in
    record {
      is = record { pids = is.pids; versions = is.versions; below = is.below; numbered = is.numbered; rooted = is.rooted; given = is.given; apart = is.apart; formed = is.formed };
      goes = record { pids = g.pids; versions = g.versions; given = g.given; gone = g.gone; fresh = g.fresh; lasts = g.lasts; dropped = g.dropped; loses = g.loses; rooted = g.rooted; own = g.own; frozen = g.frozen; keeps = g.keeps };
    }

-- more pages may be the call's own
pub goes_more : {old new : Snapshot} {w v : Forest} (mine more : List ℕ) (lost : Option Tree) → ((p : ℕ) → In p mine → In p more) → Guarantee mine lost old w new v → Guarantee more lost old w new v
goes_more mine more lost sub g = record {
  pids = g.pids;
  versions = g.versions;
  given = g.given;
  gone = g.gone;
  fresh = g.fresh;
  lasts = g.lasts;
  dropped = g.dropped;
  loses = g.loses;
  rooted = g.rooted;
  own = λ p stray off. g.own p stray (λ i. off (sub p i));
  frozen = g.frozen;
  keeps = record {
    stood = g.keeps.stood;
    capped = g.keeps.capped;
    stray = λ p stray off. g.keeps.stray p stray (λ i. off (sub p i));
    left = g.keeps.left;
    wakes = g.keeps.wakes;
    child = g.keeps.child;
  };
}

-- a store's moment after each of its changing calls

module _ (numbers : Tree → Option ℕ) (given : ℕ → Bool) where
  at_state : (s : Store) (x : State) (pids versions : ℕ → Bool) → now s ≡ x → s.pids ≡ pids → s.versions ≡ versions → snapshot_of s numbers given ≡ record { state = x; pids = pids; versions = versions; numbers = numbers; given = given }
  at_state s x pids versions a b c = λ i. record { state = a i; pids = b i; versions = c i; numbers = numbers; given = given }

  pub store_replaced : {p : ℕ} {g : Page} {old new : Store} → ActsAt (PageBecomes p (Some g)) g.version old new → snapshot_of new numbers given ≡ after_replacement (snapshot_of old numbers given) p g
  store_replaced {p} {g} {old} {new} a = at_state new _ _ _ (ap now a.is ∙ now_acted (PageBecomes p (Some g)) old) (ap (λ (s : Store). s.pids) a.is) (ap (λ (s : Store). s.versions) a.is)

  pub store_allocated : {node : Node} {p version : ℕ} {old new : Store} → Allocates node p version old new → snapshot_of new numbers given ≡ after_allocation (snapshot_of old numbers given) p (record { version = version; node = node })
  store_allocated {node} {p} {version} {old} {new} a = at_state new _ _ _ (ap now a.is ∙ now_acted (PageBecomes p (Some (record { version = version; node = node }))) old) (ap (λ (s : Store). s.pids) a.is) (ap (λ (s : Store). s.versions) a.is)

  pub store_acted : (act : Action) (old new : Store) → new ≡ after_action act old → snapshot_of new numbers given ≡ record (snapshot_of old numbers given) { state = after act (now old) }
  store_acted act old new a = at_state new _ _ _ (ap now a ∙ now_acted act old) (ap (λ (s : Store). s.pids) a) (ap (λ (s : Store). s.versions) a)

-- a page that went, and a root that became another
pub store_freed : (numbers : Tree → Option ℕ) (given : ℕ → Bool) (p : ℕ) (old new : Store) → new ≡ after_action (PageBecomes p None) old → snapshot_of new numbers given ≡ after_free (snapshot_of old numbers given) p
store_freed numbers given p old new a = store_acted numbers given (PageBecomes p None) old new a

pub store_hoisted : (numbers : Tree → Option ℕ) (given : ℕ → Bool) (t : Tree) (r : ℕ) (old new : Store) → new ≡ after_action (RootBecomes t (Some r)) old → snapshot_of new numbers given ≡ after_hoist (snapshot_of old numbers given) t r
store_hoisted numbers given t r old new a = store_acted numbers given (RootBecomes t (Some r)) old new a

-- a name that got its first root and its number, and one that lost both
pub store_planted : (numbers : Tree → Option ℕ) (given : ℕ → Bool) (t : Tree) (r number : ℕ) (old new : Store) → new ≡ after_action (RootBecomes t (Some r)) old
    → snapshot_of new (put_name numbers t (Some number)) (put_at given number true) ≡ after_creation (snapshot_of old numbers given) t r number
store_planted numbers given t r number old new a = store_acted (put_name numbers t (Some number)) (put_at given number true) (RootBecomes t (Some r)) old new a

pub store_dropped : (numbers : Tree → Option ℕ) (given : ℕ → Bool) (t : Tree) (old new : Store) → new ≡ after_action (RootBecomes t None) old
    → snapshot_of new (put_name numbers t None) given ≡ after_drop (snapshot_of old numbers given) t
store_dropped numbers given t old new a = store_acted (put_name numbers t None) given (RootBecomes t None) old new a

-- a store's moment, from the law of stores
pub store_moment : (s : Store) (numbers : Tree → Option ℕ) (given : ℕ → Bool) (w : Forest) → AreGiven s
    → ((t : Tree) (r : ℕ) → (now s).roots t ≡ Some r → (n : ℕ) × (numbers t ≡ Some n))
    → ((t : Tree) (n : ℕ) → numbers t ≡ Some n → (r : ℕ) × ((now s).roots t ≡ Some r))
    → ((t : Tree) (n : ℕ) → numbers t ≡ Some n → given n ≡ true)
    → ((t u : Tree) (n : ℕ) → numbers t ≡ Some n → numbers u ≡ Some n → t ≡ u)
    → WellFormed (nodes_of (now s)) (now s).roots w → HasForest (snapshot_of s numbers given) w
store_moment s numbers given w are numbered rooted of apart formed = record { pids = are.pid; versions = are.version; below = are.numbered; numbered = numbered; rooted = rooted; given = of; apart = apart; formed = formed }

-- what is known of the root

pub root_in : {nodes : Nodes} {roots : Tree → Option ℕ} {w : Forest} → WellFormed nodes roots w → (t : Tree) (r : ℕ) → roots t ≡ Some r → (h : ℕ) × (n : Node) × In r (w.chain (place t h)) × (nodes r ≡ Some n) × (n.lo ≡ []) × (n.merging ≡ false)
root_in {nodes} {roots} {w} f t r e =
    let a = subst (λ o. MatchOption o ((h : ℕ) → w.chain (place t h) ≡ []) (λ r. (h : ℕ) × (head (w.chain (place t h)) ≡ Some r) × (w.chain (place t (suc h)) ≡ []))) e (f.top t) in
    let i = head_in (w.chain (place t a.0)) r a.1 in
    let p = f.page (place t a.0) r (f.homed (place t a.0) r i) in
    (a.0, p.0, i, p.1.live, first (f.run (place t a.0)) a.1 p.0 p.1.live, not_merging p.0.merging (λ g. let q = p.1.parent g in subst (λ l. In q.0 l) a.2 q.2))
  where
    first : {x : Place} → (w.chain x ≡ []) ⊎ Run nodes (w.chain x) (head (w.chain x)) [] None [] → head (w.chain x) ≡ Some r → (n : Node) → nodes r ≡ Some n → n.lo ≡ []
    first {x} o is n live = elim o [
      | inl none ↦ none_some (sym (ap head none) ∙ is)
      | inr run ↦ go (w.chain x) is run
    ]
      where
        go : (ps : List ℕ) → head ps ≡ Some r → Run nodes ps (head ps) [] None [] → n.lo ≡ []
        go [] is run = none_some is
        go (p ∷ ps) is run = ap (λ (z : Node). z.lo) (some_is (sym live ∙ ap nodes (sym (some_is is)) ∙ run.1.live)) ∙ sym run.1.lo_is

    not_merging : (b : Bool) → (b ≡ true → ⊥) → b ≡ false
    not_merging true off = absurd (off refl)
    not_merging false off = refl

-- the kind of a page gives its height
pub leaf_low : (h : ℕ) (lo hi : Key) (es : List (Key × Key)) → Holds h lo hi (Leaf es) → h ≡ 0
leaf_low zero lo hi es s = refl
leaf_low (suc h) lo hi es s = absurd s

pub index_high : (h : ℕ) (lo hi : Key) (es : List (Key × ℕ)) → Holds h lo hi (Index es) → (g : ℕ) × (h ≡ suc g)
index_high zero lo hi es s = absurd s
index_high (suc h) lo hi es s = (h, refl)

-- a page of a chain is what its height says
pub sound_at : {nodes : Nodes} {roots : Tree → Option ℕ} {w : Forest} → WellFormed nodes roots w → (x : Place) (p : ℕ) (n : Node) → In p (w.chain x) → nodes p ≡ Some n → IsNodeAt x.height n
sound_at f x p n i live = record { holds = holds_at f x p n i live }

-- a leaf of a chain holds pairs
pub leaf_in : {nodes : Nodes} {roots : Tree → Option ℕ} {w : Forest} → WellFormed nodes roots w → (t : Tree) (h p : ℕ) (n : Node) (es : List (Key × Key)) → In p (w.chain (place t h)) → nodes p ≡ Some n → n.content ≡ Leaf es → h ≡ 0
leaf_in f t h p n es i live leaf = leaf_low h n.lo n.hi es (subst (λ c. Holds h n.lo n.hi c) leaf (holds_at f (place t h) p n i live))

pub put_few : {X : Type 0} (k : Key) (v : X) (es : List (Key × X)) → length (put key_cmp k v es) ≤ length es + 1
put_few k v [] = omega arith
put_few k v (e ∷ es) =
    let h = put_few k v es in
    elim (key_cmp k e.0) as (λ o. length (by_order o ((k, v) ∷ e ∷ es) ((e.0, v) ∷ es) (e ∷ put key_cmp k v es)) ≤ length (e ∷ es) + 1) [ Less ↦ omega arith | Equal ↦ omega arith | Greater ↦ omega arith ]

-- a leaf has one pair more at most after a `Set`
pub few_more : (k v : Key) (c : Data) → count (with_pair k v c) ≤ count c + 1
few_more k v (Leaf es) = put_few k v es
few_more k v (Index es) = omega arith

-- a page, as a node and with its version
pub as_page : (m : Snapshot) (c : ℕ) (n : Node) → nodes_at m c ≡ Some n → (g : Page) × (m.state.pages c ≡ Some g) × (g.node ≡ n)
as_page m c n e = go (m.state.pages c) refl e
  where
    go : (o : Option Page) → m.state.pages c ≡ o → option_map (λ (z : Page). z.node) o ≡ Some n → (g : Page) × (m.state.pages c ≡ Some g) × (g.node ≡ n)
    go None a b = none_some b
    go (Some g) a b = (g, a, some_is b)

module _ {m : Snapshot} {w : Forest} {x : Place} {number : ℕ} {look : View} (k : SeenOpen m w x number look) where
  -- while the page has the version at which it was read, it is the node that was read
  pub fresh_node : IsAtVersion m look → nodes_at m look.pid ≡ Some look.node
  fresh_node f = ap (option_map (λ (z : Page). z.node)) f.live ∙ ap Some (k.view.speaks f.page f.live f.same)

  -- .. and stands in its chain, if the tree has its number
  pub fresh_in : IsAtVersion m look → m.numbers x.tree ≡ Some number → In look.pid (w.chain x)
  fresh_in f named = (now_law m w x number look.node.lo look.pid k.stood named look.node (fresh_node f) k.is_open.not_merging).0

-- a page of a chain stands there
pub stands_here : {m : Snapshot} {w : Forest} → HasForest m w → (x : Place) (number p : ℕ) (n : Node) → m.numbers x.tree ≡ Some number → In p (w.chain x) → nodes_at m p ≡ Some n → StoodInChain m w x number n.lo p
stands_here {m} is x number p n named i live =
    let g = as_page m p n live in
    record { page = is.pids p g.0 g.1; tree = is.given x.tree number named; now = inr (inr (n, live, refl, inl i)) }

-- a page that is read is viewed
pub view_here : {m : Snapshot} {w : Forest} → HasForest m w → (p version : ℕ) (n : Node) → m.state.pages p ≡ Some (record { version = version; node = n }) → IsReadAs m p version n
view_here is p version n live = record {
  given = is.versions p _ live;
  speaks = λ g e same. ap (λ (z : Page). z.node) (some_is (sym e ∙ live));
}

-- an open page of a chain, as it is read
pub seen_here : {m : Snapshot} {w : Forest} → HasForest m w → (x : Place) (number : ℕ) (look : View) → m.numbers x.tree ≡ Some number → m.state.pages look.pid ≡ Some (record { version = look.version; node = look.node }) → In look.pid (w.chain x) → IsOpen look.node → SeenOpen m w x number look
seen_here {m} is x number look named live i calm =
    let node : nodes_at m look.pid ≡ Some look.node = ap (option_map (λ (z : Page). z.node)) live in
    record {
      view = view_here is look.pid look.version look.node live;
      stood = stands_here is x number look.pid look.node named i node;
      is_open = calm;
      sound = sound_at is.formed x look.pid look.node i node;
    }

-- an open leaf of a chain that covers the key, as it is read
pub acting_here : {m : Snapshot} {w : Forest} → HasForest m w → (t : Tree) (number : ℕ) (aim : Bound Key) (look : View) → m.numbers t ≡ Some number → m.state.pages look.pid ≡ Some (record { version = look.version; node = look.node }) → In look.pid (w.chain (place t 0)) → IsOpen look.node → LiesUnder aim look.node → IsActing m w t number aim look
acting_here {m} is t number aim look named live i calm under =
    let b = leaf_at is.formed t look.pid look.node i (ap (option_map (λ (z : Page). z.node)) live) in
    record { seen = seen_here is (place t 0) number look named live i calm; under = under; es = b.0; content = b.1 }

-- what a call knows survives each action of others
module _ {mine : List ℕ} {lost : Option Tree} {old new : Snapshot} {w v : Forest} (g : Guarantee mine lost old w new v) where
  pub seen_kept : (x : Place) (number : ℕ) (look : View) → SeenOpen old w x number look → SeenOpen new v x number look
  seen_kept x number look k = record {
    view = view_law mine lost old new w v g look.pid look.version look.node k.view;
    stood = stood_law mine lost old new w v g x number look.node.lo look.pid k.stood;
    is_open = k.is_open;
    sound = k.sound;
  }

  pub acting_kept : (t : Tree) (number : ℕ) (aim : Bound Key) (look : View) → IsActing old w t number aim look → IsActing new v t number aim look
  acting_kept t number aim look k = record { seen = seen_kept (place t 0) number look k.seen; under = k.under; es = k.es; content = k.content }

-- the change of a leaf that was read, where it has its version and the tree its number
module _ {m : Snapshot} {w : Forest} (is : HasForest m w) (t : Tree) (number : ℕ) (key : Key) (look : View) (node : Node) (k : IsActing m w t number (Included key) look) (c : IsNodeNow m t number look node) where
  fresh : IsAtVersion m look
  fresh = record { page = record { version = look.version; node = node }; live = c.page; same = refl }

  node_is : node ≡ look.node
  node_is = k.seen.view.speaks (record { version = look.version; node = node }) c.page refl

  pub leaf_now : IsAt (nodes_at m) w (place t 0) look.pid node
  leaf_now = record {
    chained = fresh_in k.seen fresh c.named;
    live = ap (option_map (λ (z : Page). z.node)) c.page;
    not_merging = subst (λ (z : Node). z.merging ≡ false) (sym node_is) k.seen.is_open.not_merging;
  }

  pub covers_now : Covers node key
  covers_now = subst (λ (z : Node). Covers z key) (sym node_is) (under_covers key look.node k.under)

  -- what the leaf has at the key is what the tree has at it
  pub answers : find key_cmp key (contents (nodes_at m) w t) ≡ value_at look.node.content key
  answers = find_law (nodes_at m) m.state.roots w is.formed t look.pid node key leaf_now.chained leaf_now.live covers_now ∙ ap (λ (z : Node). find key_cmp key (pairs z.content)) node_is ∙ value look.node.content (sym k.content)
    where
      value : (d : Data) → Leaf k.es ≡ d → find key_cmp key (pairs d) ≡ value_at d key
      value (Leaf es) e = refl
      value (Index es) e = absurd (apart e)
        where
          apart : Leaf k.es ≡ Index es → ⊥
          apart e = cc

  module _ (version : ℕ) (unused : m.versions version ≡ false) (n : Node) (change : List (Key × Key) → List (Key × Key)) (fits : Type 0) (d : Changed (nodes_at m) (put_node (nodes_at m) look.pid n) m.state.roots w t change fits) where
    abbrev then_is : Snapshot
    then_is = after_replacement m look.pid (record { version = version; node = n })

    nodes_new : nodes_at then_is ≡ put_node (nodes_at m) look.pid n
    nodes_new = nodes_replaced m look.pid (record { version = version; node = n })

    written : Written m w then_is t change fits
    written = record {
      steps = replace_law [] m w w look.pid _ (record { version = version; node = n }) is c.page leaf_now.not_merging unused (inl (place t 0, is.formed.homed (place t 0) look.pid leaf_now.chained)) d.kept d.keeps;
      here = ap (λ z. contents z w t) nodes_new ∙ d.here;
      others = λ u off. ap (λ z. contents z w u) nodes_new ∙ d.others u off;
      sized = λ e z. subst (λ y. IsSized y w) (sym nodes_new) (d.sized e z);
      grows = λ e. subst (λ y. GrowsByReceiving (nodes_at m) y w) (sym nodes_new) (d.grows e);
    }

  pub set_written : (v : Key) (version : ℕ) → m.versions version ≡ false → Written m w (after_replacement m look.pid (record { version = version; node = after_link (Set key v) node })) t (put key_cmp key v) (count (after_link (Set key v) node).content ≤ 17)
  set_written v version unused = written version unused (after_link (Set key v) node) (put key_cmp key v) _ (set_law (nodes_at m) m.state.roots w is.formed t look.pid node key v leaf_now covers_now)

  pub del_written : (version : ℕ) → m.versions version ≡ false → Written m w (after_replacement m look.pid (record { version = version; node = after_link (Del key) node })) t (without key) (Unit {0})
  del_written version unused = written version unused (after_link (Del key) node) (without key) _ (del_law (nodes_at m) m.state.roots w is.formed t look.pid node key leaf_now covers_now)

  -- a view of few pairs leaves room for one more
  pub set_few : (v : Key) → HasRoomForOne look → count (after_link (Set key v) node).content ≤ 17
  set_few v f = subst (λ (z : Node). count (with_pair key v z.content) ≤ 17) (sym node_is) (small (count look.node.content) (count (with_pair key v look.node.content)) f.fits (few_more key v look.node.content))
    where
      small : (a b : ℕ) → a ≤ 16 → b ≤ a + 1 → b ≤ 17
      small a b p q = omega arith

pub write_law : WriteLaw
write_law m w is t number key look node k c v version unused = set_written is t number key look node k c v version unused

pub erase_law : EraseLaw
erase_law m w is t number key look node k c version unused = del_written is t number key look node k c version unused

pub answer_law : AnswerLaw
answer_law m w is t number key look node k c = answers is t number key look node k c

pub acting_law : ActingLaw
acting_law mine lost old new w v g t number aim look k = acting_kept g t number aim look k
