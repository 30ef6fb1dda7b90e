-- What several calls may have to repair does not rise while no page of a tree changes, and falls with each change.
use Rattle.std.proofs.Common.{◌≡◌, ◌≢◌, ℕ, ◌+◌, ◌*◌, ◌≤◌, Bool, false, List, ◌∷◌, ◌++◌, Option, Some, sym, refl, ap, ◌∙◌, subst, inl, inr, ◌⊎◌, arith}
use Rattle.sled_nodes.proofs.Basics.{some_is, same_or_not, true_false}
use Rattle.sled_store.specs.In.{In}
use Rattle.sled_store.specs.State.{State, nodes_of}
use Rattle.sled_store.specs.Store.{Store, now}
use Rattle.sled_store.specs.declared.page.Page.{Page}
use Rattle.sled_model.specs.declared.tree.Tree.{Tree as NamedTree}
use Rattle.tree_laws.specs.Forest.{Tree, Forest, Place, place}
use Rattle.tree_laws.specs.Snapshot.{Snapshot, snapshot_of, HasForest}
use Rattle.tree_laws.specs.declared.flight.Merge.{Merge}
use Rattle.tree_laws.specs.declared.flight.Stage.{Stage}
use Rattle.tree_laws.specs.declared.flight.Stage.TheVariants as stage
use Rattle.sled_tree.specs.Course.{Course}
use Rattle.tree_progress.specs.ToDo.{to_do}
use Rattle.tree_progress.proofs.Drifting.{is_calm}
use Rattle.move_laws.specs.Among.{IsUnderWay}
use Rattle.move_laws.specs.Meant.{Flight, flight, meant, sum_once, grown, repairs_left, all_left}
use Rattle.move_laws.proofs.Deeds.{Receives, Changes, Repairs, Takes}
use Rattle.move_laws.proofs.Lists.{middle, others_in, one_of, sum_falls}
use Rattle.move_laws.proofs.Meaning.{IsMeant, meant_of, of_meant, meant_before, below, stands, stands_now, not_receiving, one_index, intending}
use Rattle.move_laws.proofs.Once.{once_more, once_without}
use Rattle.move_laws.proofs.Stepping.{IsStill}

-- a call that is at another stage is to make no page a merging child
pub calm_means : (s : State) (b : Stage) → is_calm b → (c : ℕ) → IsMeant s b c → ⊥
calm_means s b calm c u = subst is_calm u.stage_is calm

module _ (numbers : Tree → Option ℕ) (given : ℕ → Bool) (old new : Store) (w v : Forest) (is : HasForest (snapshot_of old numbers given) w) (j : Course) (a b : Stage) (before behind : List Flight) (own : IsUnderWay numbers given old w (flight j a)) (under : (f : Flight) → In f (before ++ behind) → IsUnderWay numbers given old w f) where
  abbrev m : Snapshot
  m = snapshot_of old numbers given

  abbrev m' : Snapshot
  m' = snapshot_of new numbers given

  abbrev fs : List Flight
  fs = before ++ flight j a ∷ behind

  abbrev gs : List Flight
  gs = before ++ flight j b ∷ behind

  abbrev was : ℕ → ℕ
  was p = grown (nodes_of (now old) p)

  abbrev is_now : ℕ → ℕ
  is_now p = grown (nodes_of (now new) p)

  abbrev Fresh : Type 0
  Fresh = (p : ℕ) (g : Page) → (now new).pages p ≡ Some g → ((now old).pages p ≡ Some g) ⊎ (old.versions g.version ≡ false)

  -- who means a page after the step: one of the others, who did before, or the call that went on
  meaning : Fresh → (number c : ℕ) → In c (meant (now new) number gs) → ((c : ℕ) → IsMeant (now new) b c → is_now c ≡ 0)
      → (is_now c ≡ 0) ⊎ ((f : Flight) × In f (before ++ behind) × (f.course.tree.number ≡ number) × IsMeant (now new) f.stage c × IsMeant (now old) f.stage c)
  meaning fresh number c i small =
      let k = meant_of (now new) number gs c i in
      elim (one_of before behind (flight j b) k.0 k.1) [
        | inl e ↦ inl (small c (subst (λ (f : Flight). IsMeant (now new) f.stage c) e k.3))
        | inr o ↦ inr (k.0, o, k.2, k.3, meant_before old new numbers given w is fresh k.0 (under k.0 o) c k.3)
      ]

  -- the pages that are meant count no more than they did, but for one that grew by so much
  abbrev Grows : ℕ → ℕ → ℕ → Type 0
  Grows number page rise = (f : Flight) → In f (before ++ behind) → f.course.tree.number ≡ number → (c : ℕ) → IsMeant (now old) f.stage c → (is_now c ≤ was c) ⊎ ((c ≡ page) × (is_now c ≤ was c + rise))

  pub more : Fresh → (number page rise : ℕ) → ((c : ℕ) → IsMeant (now new) b c → is_now c ≡ 0) → Grows number page rise → sum_once is_now (meant (now new) number gs) ≤ sum_once was (meant (now old) number fs) + rise
  more fresh number page rise small grows = once_more is_now was (meant (now new) number gs) (meant (now old) number fs) page rise (λ c i. elim (meaning fresh number c i small) [
    | inl e ↦ inl e
    | inr k ↦ inr (of_meant (now old) number fs c k.0 (others_in before behind (flight j a) k.0 k.1) k.2 k.4, grows k.0 k.1 k.2 c k.4)
  ])

  abbrev left_was : NamedTree → ℕ
  left_was t = repairs_left (now old) fs t

  abbrev left_now : NamedTree → ℕ
  left_now t = repairs_left (now new) gs t

  -- no page of a tree changes
  still_left : {n : ℕ} → IsStill numbers given old new w v j n b → (t : NamedTree) → left_now t ≤ left_was t
  still_left k t = sum _ _ _ _ (k.left t.name) (more k.fresh t.number 0 0 k.small (λ f o e c u. inl (same f o c u)))
    where
      sum : (x y u v : ℕ) → x ≡ y → u ≤ v + 0 → 3 * x + u ≤ 3 * y + v
      sum x y u v e l = omega arith

      equal : (x y : ℕ) → x ≡ y → x ≤ y
      equal x y e = omega arith

      same : (f : Flight) → In f (before ++ behind) → (c : ℕ) → IsMeant (now old) f.stage c → is_now c ≤ was c
      same f o c u =
          let s = stands old new numbers given w is f (under f o) c u in
          let x : Place = place f.course.tree.name s.height in
          equal _ _ (ap grown (k.nodes x c (subst (λ z. In z (w.chain x)) (sym u.child) s.under.chained)))

  pub still_all : {n : ℕ} → IsStill numbers given old new w v j n b → all_left (now new) gs ≤ all_left (now old) fs
  still_all k = plain _ _ (sum_falls (λ (f : Flight). left_now f.course.tree) (λ (f : Flight). left_was f.course.tree) before behind (flight j a) (flight j b) 0 (λ f o. still_left k f.course.tree) (zero _ _ (still_left k j.tree)))
    where
      plain : (x y : ℕ) → x + 0 ≤ y → x ≤ y
      plain x y l = omega arith

      zero : (x y : ℕ) → x ≤ y → x + 0 ≤ y
      zero x y l = omega arith

  -- a page changes
  module _ (calm : is_calm b) where
    none : (c : ℕ) → IsMeant (now new) b c → is_now c ≡ 0
    none c u = absurd (calm_means (now new) b calm c u)

    -- a page that is meant stands in its own tree
    own_tree : (f : Flight) → In f (before ++ behind) → (c : ℕ) → IsMeant (now old) f.stage c → {rise : ℕ} (k : Changes m m' w j.tree.name rise) → c ≡ k.page → f.course.tree.number ≡ j.tree.number
    own_tree f o c u k e =
        let s = stands old new numbers given w is f (under f o) c u in
        let x : Place = place f.course.tree.name s.height in
        let i : In k.page (w.chain x) = subst (λ z. In z (w.chain x)) (sym u.child ∙ e) s.under.chained in
        let same : f.course.tree.name ≡ j.tree.name = ap (λ (z : Place). z.tree) (some_is (sym (is.formed.homed x k.page i) ∙ is.formed.homed (place j.tree.name k.height) k.page k.chained)) in
        some_is (sym (under f o).named ∙ ap numbers same ∙ own.named)

    sizes : {rise : ℕ} (k : Changes m m' w j.tree.name rise) (number : ℕ) → Grows number k.page rise
    sizes {rise} k number f o e c u = elim (same_or_not c k.page) [
      | inr off ↦ inl (equal _ _ (ap grown (k.elsewhere c off)))
      | inl s ↦ elim k.grows [
        | inl l ↦ inr (s, subst (λ z. is_now z ≤ was z + rise) (sym s) l)
        | inr r ↦ absurd (not_receiving old new numbers given w is f (under f o) c u (subst (λ z. Receives m z) (sym s) r))
      ]
    ]
      where
        equal : (x y : ℕ) → x ≡ y → x ≤ y
        equal x y e = omega arith

    elsewhere : {rise : ℕ} (k : Changes m m' w j.tree.name rise) (t : NamedTree) → numbers t.name ≡ Some t.number → t.number ≢ j.tree.number → left_now t ≤ left_was t
    elsewhere {rise} k t named off = sum _ _ _ _ (k.others t.name (λ e. off (some_is (sym named ∙ ap numbers e ∙ own.named)))) (more k.fresh t.number 0 0 none (λ f o e c u. elim (sizes k t.number f o e c u) [
      | inl l ↦ inl l
      | inr r ↦ absurd (off (sym e ∙ own_tree f o c u k r.0))
    ]))
      where
        sum : (x y u v : ℕ) → x ≡ y → u ≤ v + 0 → 3 * x + u ≤ 3 * y + v
        sum x y u v e l = omega arith

    -- less is left in the tree, and no more in any other
    everywhere : {rise : ℕ} → Changes m m' w j.tree.name rise → left_now j.tree + 1 ≤ left_was j.tree → all_left (now new) gs + 1 ≤ all_left (now old) fs
    everywhere k falls = sum_falls (λ (f : Flight). left_now f.course.tree) (λ (f : Flight). left_was f.course.tree) before behind (flight j a) (flight j b) 1 (λ f o. others f (under f o) (same_or_not f.course.tree.number j.tree.number)) falls
      where
        weaker : (x y : ℕ) → x + 1 ≤ y → x ≤ y
        weaker x y l = omega arith

        others : (f : Flight) → IsUnderWay numbers given old w f → (f.course.tree.number ≡ j.tree.number) ⊎ (f.course.tree.number ≢ j.tree.number) → left_now f.course.tree ≤ left_was f.course.tree
        others f u (inr off) = elsewhere k f.course.tree u.named off
        others f u (inl e) =
            let name : f.course.tree.name ≡ j.tree.name = is.apart f.course.tree.name j.tree.name j.tree.number (u.named ∙ ap Some e) own.named in
            alike f.course.tree name e
          where
            alike : (t : NamedTree) → t.name ≡ j.tree.name → t.number ≡ j.tree.number → left_now t ≤ left_was t
            alike t e g = subst (λ z. 3 * to_do (now new) z + sum_once is_now (meant (now new) t.number gs) ≤ 3 * to_do (now old) z + sum_once was (meant (now old) t.number fs)) (sym e)
                (subst (λ z. 3 * to_do (now new) j.tree.name + sum_once is_now (meant (now new) z gs) ≤ 3 * to_do (now old) j.tree.name + sum_once was (meant (now old) z fs)) (sym g) (weaker _ _ falls))

    pub repairs_all : Repairs m m' w j.tree.name → all_left (now new) gs + 1 ≤ all_left (now old) fs
    repairs_all k = everywhere k.changes (sum _ _ _ _ k.falls (more k.changes.fresh j.tree.number k.changes.page k.rise none (sizes k.changes j.tree.number)))
      where
        sum : (x y u v : ℕ) → 3 * x + k.rise + 1 ≤ 3 * y → u ≤ v + k.rise → (3 * x + u) + 1 ≤ 3 * y + v
        sum x y u v l g = omega arith

    pub takes_all : (x : Merge) → a ≡ stage.Intend x → Takes m m' w j.tree.name x → all_left (now new) gs + 1 ≤ all_left (now old) fs
    takes_all x a_is k = everywhere k.changes (sum _ _ _ _ _ k.falls (once_without is_now was (meant (now new) j.tree.number gs) (meant (now old) j.tree.number fs) x.child here less))
      where
        sum : (p q u v e : ℕ) → 3 * p + 1 ≤ 3 * q + e → u + e ≤ v → (3 * p + u) + 1 ≤ 3 * q + v
        sum p q u v e l g = omega arith

        mine : IsMeant (now old) a x.child
        mine = record { merge = x; stage_is = a_is; child = refl; page = record { version = x.parent.version; node = k.here.0 }; live = k.here.1; same = refl }

        here : In x.child (meant (now old) j.tree.number fs)
        here = of_meant (now old) j.tree.number fs x.child (flight j a) (middle before behind (flight j a)) refl mine

        off : (f : Flight) → In f (before ++ behind) → (c : ℕ) → IsMeant (now new) f.stage c → c ≢ x.child
        off f o c u e =
            let one = one_index old new numbers given w is f.course.tree.name j.tree.name u.merge x (stands_now old new numbers given w is k.changes.fresh f (under f o) c u)
            (below old new numbers given w is (flight j a) own x a_is (record { page = record { version = x.parent.version; node = k.here.0 }; live = k.here.1; same = refl })) (sym u.child ∙ e) in
            let never : old.versions u.page.version ≡ false = k.now u.page (ap (now new).pages (sym one) ∙ u.live) in
            true_false (sym (intending old new numbers given w is f (under f o) u.merge u.stage_is).above.seen.view.given ∙ sym (ap old.versions u.same) ∙ never)

        less : (c : ℕ) → In c (meant (now new) j.tree.number gs) → (is_now c ≡ 0) ⊎ (In c (meant (now old) j.tree.number fs) × (c ≢ x.child) × (is_now c ≤ was c))
        less c i = elim (meaning k.changes.fresh j.tree.number c i none) [
          | inl e ↦ inl e
          | inr f ↦ inr (of_meant (now old) j.tree.number fs c f.0 (others_in before behind (flight j a) f.0 f.1) f.2 f.4, off f.0 f.1 c f.3, elim (sizes k.changes j.tree.number f.0 f.1 f.2 c f.4) [ inl l ↦ l | inr r ↦ zero _ _ r.1 ])
        ]
          where
            zero : (y z : ℕ) → y ≤ z + 0 → y ≤ z
            zero y z l = omega arith
