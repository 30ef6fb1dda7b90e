-- What a call in flight knows survives the actions of others.
use Rattle.std.proofs.Common.{◌≡◌, ◌≢◌, ℕ, true, List, Option, Some, None, option_map, sym, refl, ap, ◌∙◌, subst, inl, inr, ◌⊎◌}
use Rattle.sled_nodes.proofs.Basics.{same_or_not, some_none, some_is, true_false}
use Rattle.sled_nodes.specs.declared.node.Node.{Node}
use Rattle.sled_store.specs.declared.page.Page.{Page}
use Rattle.tree_laws.specs.Forest.{Tree, Forest}
use Rattle.tree_laws.specs.Snapshot.{Snapshot}
use Rattle.tree_laws.specs.theory.Snapshot.{Guarantee}
use Rattle.tree_laws.specs.theory.Laws.{ViewLaw, StoodLaw, NowLaw}

pub view_law : ViewLaw
view_law mine lost old new w v s p version n k = record {
  given = s.versions version k.given;
  speaks = λ g e is. elim (s.fresh p g e) [ inl a ↦ k.speaks g a is | inr b ↦ let c = k.given in cc (ap old.versions is) ];
}

pub no_page : (o : Option Page) → option_map (λ (g : Page). g.node) o ≡ None → o ≡ None
no_page None e = refl
no_page (Some g) e = cc

pub is_none : {A : Type 0} (o : Option A) → (o ≡ None) ⊎ (o ≢ None)
is_none None = inl refl
is_none (Some a) = inr (λ e. cc)

-- whether a number is the one that is there
pub is_number : (o : Option ℕ) (n : ℕ) → (o ≡ Some n) ⊎ (o ≢ Some n)
is_number None n = inr (λ e. cc)
is_number (Some m) n = elim (same_or_not m n) [ inl e ↦ inl (ap Some e) | inr e ↦ inr (λ g. e (one g)) ]
  where
    one : Some m ≡ Some n → m ≡ n
    one g = cc

module _ {mine : List ℕ} {lost : Option Tree} {old new : Snapshot} {w v : Forest} (s : Guarantee mine lost old w new v) where
  -- a tree that has its number still had it before, and is not the one that is lost
  pub had_number : (t : Tree) (n : ℕ) → old.given n ≡ true → new.numbers t ≡ Some n → old.numbers t ≡ Some n
  had_number t n given e = elim (is_number (old.numbers t) n) [ inl a ↦ a | inr b ↦ absurd (s.dropped t n given b e) ]

  pub not_lost : (t : Tree) (n : ℕ) → new.numbers t ≡ Some n → lost ≢ Some t
  not_lost t n e is = apart (sym (s.loses t is) ∙ e)
    where
      apart : None ≡ Some n → ⊥
      apart g = cc

pub stood_law : StoodLaw
stood_law mine lost old new w v s x number lo p k = record {
  page = s.pids p k.page;
  tree = s.given number k.tree;
  now = elim (is_number (new.numbers x.tree) number) [
    | inr e ↦ inl e
    | inl is ↦ elim k.now [
      | inl e ↦ absurd (e (had_number s x.tree number k.tree is))
      | inr h ↦ inr (elim h [
        | inl e ↦ inl (ap (option_map (λ (g : Page). g.node)) (s.gone p k.page (no_page (old.state.pages p) e)))
        | inr a ↦ elim a.3 [
          | inl i ↦ inr (let b = s.keeps.stood x p a.0 (not_lost s x.tree number is) i a.1 in (b.0, b.1, b.2 ∙ a.2, b.3))
          | inr t ↦ elim (s.keeps.capped p a.0 a.1 t) [ inl live ↦ inr (a.0, live, a.2, inr t) | inr none ↦ inl none ]
        ]
      ])
    ]
  ];
}

pub now_law : NowLaw
now_law m w x number lo p k root n live not_merging = elim k.now [
  | inl e ↦ absurd (e root)
  | inr h ↦ elim h [
    | inl e ↦ some_none (sym live ∙ e)
    | inr a ↦
        let is : a.0 ≡ n = some_is (sym a.1 ∙ live) in
        elim a.3 [
          | inl i ↦ (i, ap (λ (z : Node). z.lo) (sym is) ∙ a.2)
          | inr t ↦ true_false (sym (subst (λ (z : Node). z.merging ≡ true) is t) ∙ not_merging)
        ]
  ]
]
