-- Small facts that the stages share.
use Rattle.std.proofs.Common.{◌≡◌, ℕ, ◌+◌, ◌<◌, ◌≤◌, ◌↔◌, IsTrue, true, false, Bool, List, [], ◌∷◌, ◌++◌, Option, Some, None, sym, refl, ap, ◌∙◌, subst, inl, inr, arith, Less, Equal, Greater, Err}
use Rattle.std.specs.Ordering.{is_gt, ordering_reverse}
use Rattle.std.specs.declared.cmp.Ordering.{Ordering}
use Rattle.std.proofs.lemmas.Bool.Decides.{leb_tells}
use Rattle.sled_nodes.proofs.Basics.{none_some, some_is, same_or_not, key_total}
use Rattle.sled_nodes.specs.Order.{Key, key_cmp, Below, UpTo}
use Rattle.sled_store.specs.In.{In}
use Rattle.sled_nodes.specs.Node.{count}
use Rattle.sled_store.specs.Update.{put_at}
use Rattle.sled_store.specs.State.{State, PageBecomes, RootBecomes}
use Rattle.sled_store.specs.theory.Facts.{now_acts, now_acted, now_allocates, put_here, put_elsewhere, put_name_here}
use Rattle.sled_store.specs.Store.{Store, now, after_action, view_of, IsRefused, IsReadRefused, Changes, ActsAt, Allocates}
use Rattle.sled_nodes.specs.declared.error.Error.{Error}
use Rattle.sled_nodes.specs.declared.error.Error.TheVariants as error
use Rattle.sled_nodes.specs.declared.node.Node.{Node}
use Rattle.sled_store.specs.declared.page.Page.{Page}
use Rattle.sled_store.specs.declared.page.View.{View}
use Rattle.sled_model.specs.Maps.{Merge as Operator}
use Rattle.tree_laws.specs.Forest.{Tree, Forest, Place, place}
use Rattle.tree_laws.specs.theory.Laws.{after_replacement, after_allocation, after_free, after_hoist}
use Rattle.tree_laws.specs.Snapshot.{Snapshot, snapshot_of, nodes_at, HasForest}
use Rattle.tree_laws.specs.theory.Snapshot.{KeepsForest, GrowsByReceiving}
use Rattle.tree_laws.specs.theory.StageLaws.{StageActionLaw}
use Rattle.tree_laws.proofs.Known.{goes_same, root_in}
use Rattle.sled_tree.specs.Course.{Course, course_of}
use Rattle.tree_laws.specs.declared.flight.Stage.{Stage}
use Rattle.tree_laws.specs.declared.flight.Stage.TheVariants as stage
use Rattle.sled_tree.specs.declared.flight.Sequel.{Sequel}
use Rattle.sled_tree.specs.declared.flight.Sequel.TheVariants as sequel
use Rattle.sled_tree.specs.declared.flight.InFlight.{InFlight}
use Rattle.sled_tree.specs.declared.flight.Went.{Went}
use Rattle.sled_tree.specs.declared.flight.Went.TheVariants as went
use Rattle.tree_laws.specs.Stages.{IsStage, owned}
use Rattle.tree_laws.proofs.States.{stays_true}
use Rattle.tree_laws.proofs.Viewed.{viewed}
use Rattle.sled_tree.specs.Stages.{Knows, changes_at}
use Rattle.sled_tree.specs.StageAction.{ActsOnce, LeaksNoPage, leaks_no_page_as}
use Rattle.sled_tree.specs.theory.StageAction.{StageAction, StageActionBy, StageOutcome, Whichever, KeepsContents, FlightStep, FlightStepBy, is_action_refused_as}

-- a page that stays as it is does not grow
pub grows_not : (m : Snapshot) (w : Forest) → GrowsByReceiving (nodes_at m) (nodes_at m) w
grows_not m w = record { grows = λ x p n d i a b. inl (as_many n d (some_is (sym a ∙ b))) }
  where
    as_many : (n d : Node) → n ≡ d → count d.content ≤ count n.content
    as_many n d e = let same : count n.content ≡ count d.content = ap (λ (z : Node). count z.content) e in omega arith

-- nothing is done, and nothing is owned that was not owned before
pub rests : (mine own : List ℕ) (m : Snapshot) (w : Forest) → HasForest m w → ((q : ℕ) → In q own → In q mine) → KeepsForest mine own m w m w
rests mine own m w is kept = record { is = is; goes = goes_same (mine ++ own) m w is; fresh = λ q i. inl (kept q i); sized = λ s. s; grows = grows_not m w }

pub same_here : (m : Snapshot) (w : Forest) → KeepsContents m w m w
same_here m w = record { same = λ t. refl }

-- an action that does nothing leaves no page behind
pub leaves_same : (mine own : List ℕ) (s : State) (v : Forest) → ((q : ℕ) → In q mine → In q own) → LeaksNoPage mine own s s v
leaves_same mine own s v kept = record {
  kept = λ q i. inl (kept q i);
  made = λ q e. inl e;
  merged = λ p c g h was child now. inl (ap (λ (z : Page). z.node.merging_child) (some_is (sym now ∙ was)) ∙ child);
}

-- .. nor does a read of a call that owns none
pub leaves_read : (mine : List ℕ) (n : Sequel) (s : State) (v : Forest) → mine ≡ [] → leaks_no_page_as n mine s s v
leaves_read mine (sequel.Go b) s v none = leaves_same mine (owned b) s v (λ q i. absurd (subst (In q) none i))
leaves_read mine (sequel.Decided reply) s v none = leaves_same mine [] s v (λ q i. subst (In q) none i)
leaves_read mine (sequel.Refused e) s v none = tt

-- a page changes, and is not rid of a merging child but to the call
pub leaves_replaced : (mine own : List ℕ) (m : Snapshot) (p : ℕ) (g n : Page) (v : Forest) → m.state.pages p ≡ Some g → ((c : ℕ) → g.node.merging_child ≡ Some c → In c own)
    → ((q : ℕ) → In q mine → (x : Place) × In q (v.chain x)) → LeaksNoPage mine own m.state (after_replacement m p n).state v
leaves_replaced mine own m p g n v live rid kept = record {
  kept = λ q i. inr (inr (kept q i));
  made = λ q e. elim (same_or_not q p) [
    | inl s ↦ none_some (sym e ∙ ap m.state.pages s ∙ live)
    | inr off ↦ inl (put_elsewhere m.state.pages p q (Some n) off ∙ e)
  ];
  merged = λ q c a b was child now. elim (same_or_not q p) [
    | inl s ↦ inr (rid c (ap (λ (z : Page). z.node.merging_child) (some_is (sym live ∙ ap m.state.pages (sym s) ∙ was)) ∙ child))
    | inr off ↦ inl (ap (λ (z : Page). z.node.merging_child) (some_is (sym now ∙ put_elsewhere m.state.pages p q (Some n) off ∙ was)) ∙ child)
  ];
}

-- an open page has no merging child to be rid of
pub rid_of_none : (own : List ℕ) (g : Page) (n : Node) → g.node ≡ n → n.merging_child ≡ None → (c : ℕ) → g.node.merging_child ≡ Some c → In c own
rid_of_none own g n e none c child = none_some (sym none ∙ ap (λ (z : Node). z.merging_child) (sym e) ∙ child)

-- a page is made
pub leaves_allocated : (m : Snapshot) (w : Forest) (p : ℕ) (n : Page) (v : Forest) → HasForest m w → m.pids p ≡ false → LeaksNoPage [] (p ∷ []) m.state (after_allocation m p n).state v
leaves_allocated m w p n v is fresh = record {
  kept = λ q i. absurd i;
  made = λ q e. elim (same_or_not q p) [
    | inl s ↦ inr (inl s)
    | inr off ↦ inl (put_elsewhere m.state.pages p q (Some n) off ∙ e)
  ];
  merged = λ q c a b was child now. elim (same_or_not q p) [
    | inl s ↦ absurd (apart (sym fresh ∙ ap m.pids (sym s) ∙ is.pids q a was))
    | inr off ↦ inl (ap (λ (z : Page). z.node.merging_child) (some_is (sym now ∙ put_elsewhere m.state.pages p q (Some n) off ∙ was)) ∙ child)
  ];
}
  where
    apart : false ≡ true → ⊥
    apart e = cc

-- a page of the call's own becomes a root
pub leaves_hoisted : (m : Snapshot) (t : Tree) (r : ℕ) (v : Forest) → HasForest (after_hoist m t r) v → LeaksNoPage (r ∷ []) [] m.state (after_hoist m t r).state v
leaves_hoisted m t r v is = record {
  kept = λ q i. elim i [
    | inl e ↦ let o = root_in is.formed t r (put_name_here m.state.roots t (Some r)) in inr (inr (place t o.0, subst (λ z. In z (v.chain (place t o.0))) (sym e) o.2))
    | inr b ↦ absurd b
  ];
  made = λ q e. inl e;
  merged = λ p c g h was child now. inl (ap (λ (z : Page). z.node.merging_child) (some_is (sym now ∙ was)) ∙ child);
}

-- .. or is freed
pub leaves_freed : (m : Snapshot) (p : ℕ) (v : Forest) → LeaksNoPage (p ∷ []) [] m.state (after_free m p).state v
leaves_freed m p v = record {
  kept = λ q i. elim i [
    | inl e ↦ inr (inl (ap (put_at m.state.pages p None) e ∙ put_here m.state.pages p None))
    | inr b ↦ absurd b
  ];
  made = λ q e. elim (same_or_not q p) [
    | inl s ↦ inl (ap (put_at m.state.pages p None) s ∙ put_here m.state.pages p None)
    | inr off ↦ inl (put_elsewhere m.state.pages p q None off ∙ e)
  ];
  merged = λ q c a b was child now. elim (same_or_not q p) [
    | inl s ↦ none_some (sym (ap (put_at m.state.pages p None) s ∙ put_here m.state.pages p None) ∙ now)
    | inr off ↦ inl (ap (λ (z : Page). z.node.merging_child) (some_is (sym now ∙ put_elsewhere m.state.pages p q None off ∙ was)) ∙ child)
  ];
}

-- what comes of an action that does nothing
pub stays : (j : Course) (s : Store) (a b : Stage) → ((q : ℕ) → In q (owned b) → In q (owned a)) → ((q : ℕ) → In q (owned a) → In q (owned b)) → changes_at j b
    → ((m : Snapshot) (w : Forest) → HasForest m w → m.numbers j.tree.name ≡ Some j.tree.number → IsStage m w j.tree.name j.tree.number j.aim a → IsStage m w j.tree.name j.tree.number j.aim b)
    → StageAction j s a (sequel.Go b) s
stays j s a b from to plain known = record {
  touches = inl refl;
  is = λ numbers given w is named k.
      let m : Snapshot = snapshot_of s numbers given in
      (w, rests (owned a) (owned b) m w is from, ((known m w is named k.0, plain, k.2), same_here m w), leaves_same (owned a) (owned b) (now s) w to);
}

-- the call begins again, where it owns no page
pub restarts : (j : Course) (s : Store) (a : Stage) → ((q : ℕ) → In q (owned a) → ⊥) → StageAction j s a (sequel.Go stage.Root) s
restarts j s a none = stays j s a stage.Root (λ q i. absurd i) none tt (λ m w is named k. tt)

-- a store that counted a fault shows the same moment
same_moment : (old new : Store) (numbers : Tree → Option ℕ) (given : ℕ → Bool) (e : Error) → is_action_refused_as e old new → snapshot_of new numbers given ≡ snapshot_of old numbers given
same_moment old new numbers given error.NoMemory t = ap (λ (s : Store). snapshot_of s numbers given) t
same_moment old new numbers given (error.Io fault) (inl t) = ap (λ (s : Store). snapshot_of s numbers given) t
same_moment old new numbers given (error.Io fault) (inr (t, p)) = ap (λ (s : Store). snapshot_of s numbers given) t
same_moment old new numbers given (error.CollectionNotFound name) t = absurd t
same_moment old new numbers given (error.Unsupported text) t = absurd t
same_moment old new numbers given (error.ReportableBug text) t = absurd t
same_moment old new numbers given (error.Corruption fault) t = absurd t
same_moment old new numbers given error.Closed t = absurd t

refuses : (j : Course) (old new : Store) (a : Stage) (e : Error) → is_action_refused_as e old new → StageAction j old a (sequel.Refused e) new
refuses j old new a e t = record {
  touches = t;
  is = λ numbers given w is named k.
      let same = sym (same_moment old new numbers given e t) in (
        w,
        subst (λ (m : Snapshot). KeepsForest (owned a) [] (snapshot_of old numbers given) w m w) same (rests (owned a) [] (snapshot_of old numbers given) w is (λ q i. absurd i)),
        subst (λ (m : Snapshot). KeepsContents (snapshot_of old numbers given) w m w) same (same_here (snapshot_of old numbers given) w),
        tt,
      );
}

-- a call of the store is refused,
pub refused : (j : Course) (old new : Store) (a : Stage) (e : Error) → IsRefused e old new → StageAction j old a (sequel.Refused e) new
refused j old new a e r = refuses j old new a e (go e r.is)
  where
    go : (e : Error) → Rattle.sled_store.specs.Store.is_refused_as e old new → is_action_refused_as e old new
    go error.NoMemory t = t
    go (error.Io fault) t = inl t
    go (error.CollectionNotFound name) t = absurd t
    go (error.Unsupported text) t = absurd t
    go (error.ReportableBug text) t = absurd t
    go (error.Corruption fault) t = absurd t
    go error.Closed t = absurd t

-- a read is,
pub unread : (j : Course) (s : Store) (a : Stage) (pid : ℕ) (e : Error) → IsReadRefused pid s e → StageAction j s a (sequel.Refused e) s
unread j s a pid e r = refuses j s s a e (go e r.is)
  where
    go : (e : Error) → Rattle.sled_store.specs.Store.is_read_refused_as pid s e → is_action_refused_as e s s
    go error.NoMemory t = refl
    go (error.Io fault) t = inr (refl, (pid, t))
    go (error.CollectionNotFound name) t = absurd t
    go (error.Unsupported text) t = absurd t
    go (error.ReportableBug text) t = absurd t
    go (error.Corruption fault) t = absurd t
    go error.Closed t = absurd t

-- or there is no memory
pub unable : (j : Course) (s : Store) (a : Stage) (e : Error) → e ≡ error.NoMemory → StageAction j s a (sequel.Refused e) s
unable j s a e none = subst (λ z. StageAction j s a (sequel.Refused z) s) (sym none) (refuses j s s a error.NoMemory refl)

-- a changing action after which the call goes on
pub moves_on : (j : Course) (old new : Store) (a b : Stage) → ActsOnce old new → changes_at j b
    → ((numbers : Tree → Option ℕ) (given : ℕ → Bool) (w : Forest) → HasForest (snapshot_of old numbers given) w → numbers j.tree.name ≡ Some j.tree.number → IsStage (snapshot_of old numbers given) w j.tree.name j.tree.number j.aim a
    → (m : Snapshot) × (snapshot_of new numbers given ≡ m) × (v : Forest) × StageActionLaw (snapshot_of old numbers given) w m v j.tree.name j.tree.number j.aim a b × LeaksNoPage (owned a) (owned b) (now old) m.state v)
    → StageAction j old a (sequel.Go b) new
moves_on j old new a b once plain known = record {
  touches = inr once;
  is = λ numbers given w is named k.
      let n = known numbers given w is named k.0 in
      let mo : Snapshot = snapshot_of old numbers given in
      subst (λ (z : Snapshot). (v : Forest) × KeepsForest (owned a) (owned b) mo w z v × (Knows z v j b × KeepsContents mo w z v) × LeaksNoPage (owned a) (owned b) mo.state z.state v) (sym n.1) (n.2, n.3.acts, ((n.3.knows, plain, k.2), record { same = n.3.same }), n.4);
}

-- one changing action: a page was changed, a page was made, a page went, or a root became another
pub once_acts : {p given : ℕ} {page : Option Page} {old new : Store} → ActsAt (PageBecomes p page) given old new → ActsOnce old new
once_acts {p} {given} {page} {old} {new} a = record { action = PageBecomes p page; pids = old.pids; versions = put_at old.versions given true; is = a.is; pids_stay = λ p e. e; versions_stay = stays_true old.versions given; no_group = ap (λ (s : State). s.in_group) (now_acts _ _ old new a) }

pub once_made : {node : Node} {p version : ℕ} {old new : Store} → Allocates node p version old new → ActsOnce old new
once_made {node} {p} {version} {old} {new} a = record {
  action = PageBecomes p (Some (record { version = version; node = node }));
  pids = put_at old.pids p true;
  versions = put_at old.versions version true;
  is = a.is;
  pids_stay = stays_true old.pids p;
  versions_stay = stays_true old.versions version;
  no_group = ap (λ (s : State). s.in_group) (now_allocates node p version old new a);
}

pub once_freed : (p : ℕ) (old new : Store) → new ≡ after_action (PageBecomes p None) old → ActsOnce old new
once_freed p old new e = record { action = PageBecomes p None; pids = old.pids; versions = old.versions; is = e; pids_stay = λ q e. e; versions_stay = λ v e. e; no_group = ap (λ (s : State). s.in_group) (ap now e ∙ now_acted (PageBecomes p None) old) }

pub once_rooted : (t : Tree) (r : Option ℕ) (old new : Store) → new ≡ after_action (RootBecomes t r) old → ActsOnce old new
once_rooted t r old new e = record { action = RootBecomes t r; pids = old.pids; versions = old.versions; is = e; pids_stay = λ q e. e; versions_stay = λ v e. e; no_group = ap (λ (s : State). s.in_group) (ap now e ∙ now_acted (RootBecomes t r) old) }

-- a node that should not split, though it is open, has room
pub not_long : {P : Type 0} (b : Bool) (c : ℕ) → IsTrue b ↔ ((16 < c) × P) → b ≡ false → P → c ≤ 16
not_long b c told off p = elim (leb_tells c 16) [ inl a ↦ a.1 | inr a ↦ absurd (apart (sym off ∙ told.1 (a.1, p))) ]
  where
    apart : false ≡ true → ⊥
    apart e = cc

-- a node that should split can be
pub long_enough : {P : Type 0} (b : Bool) (c : ℕ) → IsTrue b ↔ ((16 < c) × P) → b ≡ true → 2 ≤ c
long_enough b c told is = more c (told.0 is).0
  where
    more : (c : ℕ) → 16 < c → 2 ≤ c
    more c h = omega arith

-- the page had changed, and the call begins again
pub stale : (j : Course) (old new : Store) (a : Stage) {change : Node → Node} {pid version : ℕ} {present : Option ℕ} → ((q : ℕ) → In q (owned a) → ⊥) → Changes change pid version old new (Err present) → StageAction j old a (sequel.Go stage.Root) new
stale j old new a none c = subst (λ (s : Store). StageAction j old a (sequel.Go stage.Root) s) (sym c.is.0) (restarts j old a none)

-- the key lies before where it is not beyond
pub not_up_to : (a b : Key) → (UpTo a b → ⊥) → Below b a
not_up_to a b off = key_total.antisymm b a ∙ go (key_cmp a b) off
  where
    go : (o : Ordering) → (is_gt o ≡ false → ⊥) → ordering_reverse o ≡ Less
    go Less off = absurd (off refl)
    go Equal off = absurd (off refl)
    go Greater off = refl

-- a page as it is read
pub live_view : (s : Store) (pid : ℕ) (v : View) → Some v ≡ view_of pid ((now s).pages pid) → (now s).pages v.pid ≡ Some (record { version = v.version; node = v.node })
live_view s pid v e = let k = viewed pid ((now s).pages pid) v e in ap (now s).pages k.0 ∙ k.1

-- a step after which the call goes on
pub goes_on : {by : Option Operator → Type 0} (old new : Store) (f : InFlight) (taken stage : Stage) (n : Sequel) → taken ≡ f.stage → n ≡ sequel.Go stage → StageActionBy by (course_of f) old taken n new → FlightStepBy by old f went.Moved new (record { job = f.job; aim = f.aim; stage = stage; turns = f.turns + 1 })
goes_on {by} old new f taken stage n e is m = record { is = (refl, refl, refl, subst (λ z. StageActionBy by (course_of f) old z (sequel.Go stage) new) e (subst (λ z. StageActionBy by (course_of f) old taken z new) is m)) }

-- what is decided by whichever operator is decided by these
pub by_these : {by : Option Operator → Type 0} (j : Course) (old new : Store) (a : Stage) (n : Sequel) → StageAction j old a n new → StageActionBy by j old a n new
by_these {by} j old new a n s = record {
  touches = s.touches;
  is = λ numbers given w is named k.
      let r = s.is numbers given w is named k in
      (r.0, r.1, go n (snapshot_of old numbers given) w (snapshot_of new numbers given) r.0 r.2, r.3);
}
  where
    go : (n : Sequel) (m : Snapshot) (w : Forest) (l : Snapshot) (v : Forest) → StageOutcome Whichever j old new m w n l v → StageOutcome by j old new m w n l v
    go (sequel.Go stage) m w l v o = o
    go (sequel.Decided reply) m w l v o = λ operator these. o operator tt
    go (sequel.Refused e) m w l v o = o

pub flies_by_these : {by : Option Operator → Type 0} (old new : Store) (f g : InFlight) (w : Went) → FlightStep old f w new g → FlightStepBy by old f w new g
flies_by_these old new f g went.Moved s = record { is = (s.is.0, s.is.1, s.is.2, by_these (course_of f) old new f.stage (sequel.Go g.stage) s.is.3) }
flies_by_these old new f g (went.Yielded key value) s = absurd s.is
flies_by_these old new f g (went.Decided reply) s = record { is = by_these (course_of f) old new f.stage (sequel.Decided reply) s.is }
flies_by_these old new f g (went.Refused e) s = record { is = by_these (course_of f) old new f.stage (sequel.Refused e) s.is }
