-- A step by which one of several calls goes on: it brings that call on, or changes a page.
use Rattle.std.proofs.Common.{◌≡◌, ℕ, ◌+◌, ◌*◌, ◌-◌, ◌<◌, ◌≤◌, Bool, true, false, [], Option, Some, None, option_map, sym, refl, ap, ◌∙◌, subst, inl, inr, ◌⊎◌, arith, le_refl}
use Rattle.sled_nodes.specs.Among.{is_up_to}
use Rattle.sled_nodes.specs.Node.{count}
use Rattle.sled_nodes.specs.declared.node.Node.{Node}
use Rattle.sled_store.specs.In.{In}
use Rattle.sled_store.specs.State.{State, nodes_of}
use Rattle.sled_store.specs.Store.{Store, now}
use Rattle.sled_store.specs.theory.Facts.{put_elsewhere}
use Rattle.sled_store.specs.declared.page.Page.{Page}
use Rattle.tree_laws.specs.Forest.{Tree, Forest, Place}
use Rattle.tree_laws.specs.Paths.{tree_pages}
use Rattle.tree_laws.specs.Snapshot.{Snapshot, snapshot_of, nodes_at, HasForest}
use Rattle.tree_laws.specs.declared.flight.Merge.{Merge}
use Rattle.tree_laws.specs.declared.flight.Stage.{Stage}
use Rattle.tree_laws.specs.declared.flight.Stage.TheVariants as stage
use Rattle.tree_laws.proofs.Reading.{one_law}
use Rattle.sled_tree.specs.Course.{Course}
use Rattle.sled_tree.specs.Stages.{IsOnItsWay}
use Rattle.sled_tree.specs.declared.flight.Sequel.TheVariants.{Go}
use Rattle.tree_progress.specs.Alone.{GoesOnAlone}
use Rattle.tree_progress.specs.ToDo.{to_do}
use Rattle.tree_progress.proofs.Drifting.{IsOnWay, is_calm, root_steps, adrift_any, drift}
use Rattle.tree_progress.proofs.Landing.{lands}
use Rattle.tree_progress.proofs.Staying.{stray_stays, stray_counts}
use Rattle.move_laws.specs.Among.{IsUnderWay}
use Rattle.move_laws.specs.Meant.{Flight, flight, grown}
use Rattle.move_laws.proofs.Deeds.{IsStray, Repairs, Takes, page_fresh, kind_of, kind_of_intend}
use Rattle.move_laws.proofs.Meaning.{IsMeant}
use Rattle.move_laws.proofs.OnWay.{IsGoing, on_way_goes, going_stays}

-- a page of at most 3 entries grew by nothing
pub none_grown : (o : Option Node) → ((d : Node) → o ≡ Some d → count d.content ≤ 3) → grown o ≡ 0
none_grown None small = refl
none_grown (Some d) small = none (count d.content) (small d refl)
  where
    none : (n : ℕ) → n ≤ 3 → 8 * (n - 3) ≡ 0
    none n l = omega arith

pub small_on_way : (m : Snapshot) (w : Forest) (j : Course) (k : ℕ) (b : Stage) → IsOnWay m w j k b → (s : State) (c : ℕ) → IsMeant s b c → grown (nodes_at m c) ≡ 0
small_on_way m w j k b on s c u = ap (λ z. grown (nodes_at m z)) u.child ∙ none_grown (nodes_at m u.merge.child) (small (subst (λ z. IsOnWay m w j k z) u.stage_is on))
  where
    small : IsOnWay m w j k (stage.Intend u.merge) → (d : Node) → nodes_at m u.merge.child ≡ Some d → count d.content ≤ 3
    small (inl f) = f.small
    small (inr f) = f.1

-- No page of a tree changes. The call is nearer to a change, and each other call is where it was
pub record IsStill (numbers : Tree → Option ℕ) (given : ℕ → Bool) (old new : Store) (w v : Forest) (j : Course) (n : ℕ) (b : Stage) : Type 0 where
  pub fresh : (p : ℕ) (g : Page) → (now new).pages p ≡ Some g → ((now old).pages p ≡ Some g) ⊎ (old.versions g.version ≡ false)
  pub nodes : (x : Place) (c : ℕ) → In c (w.chain x) → nodes_of (now new) c ≡ nodes_of (now old) c
  pub left : (u : Tree) → to_do (now new) u ≡ to_do (now old) u
  pub pages : (u : Tree) (number : ℕ) → numbers u ≡ Some number → tree_pages (now new) u ≡ tree_pages (now old) u
  pub forest : v ≡ w
  pub ahead : ℕ
  pub fewer : ahead < n
  pub going : IsGoing (snapshot_of new numbers given) v j ahead b
  pub small : (c : ℕ) → IsMeant (now new) b c → grown (nodes_of (now new) c) ≡ 0
  pub keeps : (f : Flight) → IsUnderWay numbers given old w f → (k : ℕ) → IsGoing (snapshot_of old numbers given) w f.course k f.stage → IsGoing (snapshot_of new numbers given) v f.course k f.stage

module _ (numbers : Tree → Option ℕ) (given : ℕ → Bool) (old new : Store) (w v : Forest) (is : HasForest (snapshot_of old numbers given) w) (is_new : HasForest (snapshot_of new numbers given) v) (j : Course) where
  abbrev m : Snapshot
  m = snapshot_of old numbers given

  abbrev m' : Snapshot
  m' = snapshot_of new numbers given

  -- the call reads on
  abbrev Reads : ℕ → Stage → Type 0
  Reads n b = (k : ℕ) × (k < n) × IsGoing m' v j k b × ((c : ℕ) → IsMeant (now new) b c → grown (nodes_of (now new) c) ≡ 0)

  quiet : (n : ℕ) (b : Stage) → new ≡ old → Reads n b → IsStill numbers given old new w v j n b
  quiet n b e r = record {
    fresh = λ p g live. inl (sym (ap (λ (s : Store). (now s).pages p) e) ∙ live);
    nodes = λ x c i. ap (λ (s : Store). nodes_of (now s) c) e;
    left = λ u. ap (λ (s : Store). to_do (now s) u) e;
    pages = λ u k named. ap (λ (s : Store). tree_pages (now s) u) e;
    forest = same new (sym e) v is_new;
    ahead = r.0;
    fewer = r.1;
    going = r.2;
    small = r.3;
    keeps = λ f u k on. go f k on new (sym e) v is_new;
  }
    where
      same : (s : Store) → old ≡ s → (v : Forest) → HasForest (snapshot_of s numbers given) v → v ≡ w
      same s e = subst (λ (s : Store). (v : Forest) → HasForest (snapshot_of s numbers given) v → v ≡ w) e (λ v formed. sym (one_law (nodes_of (now old)) (now old).roots w v is.formed formed.formed))

      go : (f : Flight) (k : ℕ) → IsGoing m w f.course k f.stage → (s : Store) → old ≡ s → (v : Forest) → HasForest (snapshot_of s numbers given) v → IsGoing (snapshot_of s numbers given) v f.course k f.stage
      go f k on s e = subst (λ (s : Store). (v : Forest) → HasForest (snapshot_of s numbers given) v → IsGoing (snapshot_of s numbers given) v f.course k f.stage) e
          (λ v formed. subst (λ (z : Forest). IsGoing m z f.course k f.stage) (one_law (nodes_of (now old)) (now old).roots w v is.formed formed.formed) on)

  strays : (n : ℕ) (b : Stage) → IsStray old new w v → Reads n b → IsStill numbers given old new w v j n b
  strays n b s r = record {
    fresh = page_fresh old new s.page s.becomes s.is s.fresh;
    nodes = λ x c i. ap (λ (z : State). nodes_of z c) s.is ∙ ap (option_map (λ (g : Page). g.node)) (put_elsewhere (now old).pages s.page c s.becomes (λ e. out x (subst (λ z. In z (w.chain x)) e i)));
    left = λ u. ap (λ z. to_do z u) s.is ∙ stray_stays (now old) w is.formed is.below s.page s.becomes out u;
    pages = counts;
    forest = s.same;
    ahead = r.0;
    fewer = r.1;
    going = r.2;
    small = r.3;
    keeps = λ f u k on. subst (λ (z : Forest). IsGoing m' z f.course k f.stage) (sym s.same)
        (going_stays m w is m' s.page s.becomes s.is s.stray f.course f.course.tree.number u.named (counts f.course.tree.name f.course.tree.number u.named) k f.stage u.knows.0 on);
  }
    where
      out : (x : Place) → ¬ (In s.page (w.chain x))
      out x i = s.stray x (is.formed.homed x s.page i)

      counts : (u : Tree) (number : ℕ) → numbers u ≡ Some number → tree_pages (now new) u ≡ tree_pages (now old) u
      counts u k named = let r = is.rooted u k named in ap (λ z. tree_pages z u) s.is ∙ stray_counts (now old) w is.formed is.below s.page s.becomes out u r.0 r.1

  abbrev Outcome : ℕ → Stage → Stage → Type 0
  Outcome n a b = IsStill numbers given old new w v j n b ⊎ (is_calm b × (Repairs m m' w j.tree.name ⊎ ((x : Merge) × (a ≡ stage.Intend x) × Takes m m' w j.tree.name x)))

  -- what a call comes to that sees pages as they are, or as they may have been
  reads : (n : ℕ) (a b : Stage) → IsUnderWay numbers given old w (flight j a) → GoesOnAlone numbers given j old a w new b v → (a ≡ stage.Root → is_up_to j.aim [] ≡ true) → IsOnWay m w j n a → to_do (now new) j.tree.name ≡ to_do (now old) j.tree.name → Reads n b
  reads n a b k l low (inl fresh) same = elim (lands j old new numbers given w v is is_new l.stays j.tree.number k.named n a (Go b) low k.knows.0 k.knows.1 k.halves fresh l.follows.is) [
    | inl over ↦ absurd over
    | inr y ↦ elim y [
      | inl z ↦ (z.2.0, z.2.1, on_way_goes m' v j z.2.0 b (inl z.2.2), small_on_way m' v j z.2.0 b (inl z.2.2) (now new))
      | inr z ↦ absurd (no _ _ z.0 same)
    ]
  ]
    where
      no : (x y : ℕ) → x + 1 ≤ y → x ≡ y → ⊥
      no x y l e = omega arith
  reads n a b k l low (inr adrift) same = elim (drift j old new numbers given w v is is_new j.tree.number k.named n a (Go b) k.knows.0 k.halves adrift l.follows.is) [
    | inl over ↦ absurd over
    | inr y ↦ elim y [
      | inl z ↦ (z.2.0, z.2.1, on_way_goes m' v j z.2.0 b z.2.2, small_on_way m' v j z.2.0 b z.2.2 (now new))
      | inr z ↦ absurd (no _ _ z.0 same)
    ]
  ]
    where
      no : (x y : ℕ) → x + 1 ≤ y → x ≡ y → ⊥
      no x y l e = omega arith

  calmly : (n : ℕ) (a b : Stage) → is_calm a → IsUnderWay numbers given old w (flight j a) → GoesOnAlone numbers given j old a w new b v → (a ≡ stage.Root → is_up_to j.aim [] ≡ true) → IsOnWay m w j n a → Outcome n a b
  calmly n a b c k l low on = elim (kind_of j old new numbers given w v is is_new j.tree.number k.named a b c k.knows.0 k.halves l.follows.is) [
    | inl e ↦ inl (quiet n b e (reads n a b k l low on (ap (λ (s : Store). to_do (now s) j.tree.name) e)))
    | inr y ↦ elim y [
      | inl s ↦ inl (strays n b s (reads n a b k l low on (same s)))
      | inr r ↦ inr (r.0, inl r.1)
    ]
  ]
    where
      same : (s : IsStray old new w v) → to_do (now new) j.tree.name ≡ to_do (now old) j.tree.name
      same s = ap (λ z. to_do z j.tree.name) s.is ∙ stray_stays (now old) w is.formed is.below s.page s.becomes (λ x i. s.stray x (is.formed.homed x s.page i)) j.tree.name

  intends : (n : ℕ) (a : Merge) (b : Stage) → IsUnderWay numbers given old w (flight j (stage.Intend a)) → GoesOnAlone numbers given j old (stage.Intend a) w new b v → IsGoing m w j n (stage.Intend a) → Outcome n (stage.Intend a) b
  intends n a b k l on = elim (kind_of_intend j old new numbers given w v is is_new j.tree.number k.named a b k.knows.0 l.follows.is) [
    | inl late ↦ inl (quiet n b late.0 (at_root on late.0 late.1 late.2))
    | inr r ↦ inr (r.0, inr (a, refl, r.1))
  ]
    where
      at_root : IsGoing m w j n (stage.Intend a) → new ≡ old → b ≡ stage.Root → ((node : Node) → (now old).pages a.parent.pid ≡ Some (record { version = a.parent.version; node = node }) → ⊥) → Reads n b
      at_root (inl fresh) e root gone = absurd (gone a.parent.node fresh.above.now)
      at_root (inr room) e root gone = (
        root_steps m' j,
        subst (λ (s : Store). 2 * tree_pages (now s) j.tree.name + 2 < n) (sym e) (omega (arith, room)),
        subst (λ z. IsGoing m' v j (root_steps m' j) z) (sym root) (inl (le_refl _)),
        λ c u. absurd (none u.merge (sym root ∙ u.stage_is)),
      )
        where
          none : (x : Merge) → stage.Root ≡ stage.Intend x → ⊥
          none x e = cc

  pub steps : (n : ℕ) (a b : Stage) → IsUnderWay numbers given old w (flight j a) → GoesOnAlone numbers given j old a w new b v → (a ≡ stage.Root → is_up_to j.aim [] ≡ true) → IsGoing m w j n a → Outcome n a b
  steps n (stage.Intend a) b k l low on = intends n a b k l on
  steps n (stage.Give a) b k l low on = absurd l.follows.is
  steps n other b k l low on = calmly n other b tt k l low on

-- whatever its stage is, a call on its way is one of these
pub going_any : (numbers : Tree → Option ℕ) (given : ℕ → Bool) (s : Store) (w : Forest) → HasForest (snapshot_of s numbers given) w → (f : Flight) → IsUnderWay numbers given s w f → IsOnItsWay f.stage → IsGoing (snapshot_of s numbers given) w f.course (4 * tree_pages (now s) f.course.tree.name + 8) f.stage
going_any numbers given s w is f k way = go f.stage way
  where
    root : (r : ℕ) × ((now s).roots f.course.tree.name ≡ Some r)
    root = is.rooted f.course.tree.name f.course.tree.number k.named

    most : (p : ℕ) → (2 * p + 2) + 2 * p + 6 ≤ 4 * p + 8
    most p = omega arith

    one : (p : ℕ) → (2 * p + 2) + 1 ≤ 4 * p + 8
    one p = omega arith

    go : (a : Stage) → IsOnItsWay a → IsGoing (snapshot_of s numbers given) w f.course (4 * tree_pages (now s) f.course.tree.name + 8) a
    go (stage.Intend a) c = inr (one _)
    go (stage.Give a) c = absurd c
    go other c = adrift_any is f.course f.course.tree.number root.0 k.named root.1 (4 * tree_pages (now s) f.course.tree.name + 8) (most _) other tt
