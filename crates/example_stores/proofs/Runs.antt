-- Two calls of a store, one after the other.
use Rattle.std.proofs.Common.{◌≡◌, ℕ, true, [], ◌∷◌, ◌++◌, Option, Some, None, Result, Ok, Err, refl, sym, ap, subst, ◌∙◌, append_assoc}
use Rattle.std.specs.Result.{is_ok}
use Rattle.std.specs.Option.{option_map}
use Rattle.sled_nodes.specs.Order.{Key}
use Rattle.sled_store.specs.Update.{put_name}
use Rattle.sled_nodes.specs.declared.node.Node.{Node}
use Rattle.sled_store.specs.declared.page.Page.{Page}
use Rattle.sled_store.specs.State.{Action, PageBecomes}
use Rattle.sled_store.specs.Store.{Store, now, after_flush, ActsAt, Allocates, Changes, SwapsRoot, AreGiven}
use Rattle.sled_store.specs.theory.Facts.{page_changed, now_allocates, now_swaps, swaps_group, fresh_page}
use Rattle.example_stores.specs.Client.{Twice, Opens, links_as}

recent_two : (a b : Action) (v w : ℕ) (old mid new : Store) → ActsAt a v old mid → ActsAt b w mid new → new.recent ≡ old.recent ++ a ∷ b ∷ []
recent_two a b v w old mid new h k = ap (λ s. s.recent) k.is ∙ (ap (λ s. s.recent ++ b ∷ []) h.is ∙ append_assoc old.recent (a ∷ []) (b ∷ []))

node_or : Node → Option Page → Node
node_or d None = d
node_or d (Some p) = p.node

some_node : {v w : ℕ} {m n : Node} → ◌≡◌ {A = Option Page} (Some (record { version = v; node = m })) (Some (record { version = w; node = n })) → m ≡ n
unfolding node_or
some_node {m = m} e = ap (node_or m) e

-- two changes of one page
pub twice : (f g : Node → Node) (pid v w : ℕ) (old mid new : Store) (q r : Result ℕ (Option ℕ)) → q ≡ Ok w → is_ok r ≡ true → Changes f pid v old mid q → Changes g pid w mid new r → Twice f g pid v old new
twice f g pid v w old mid new q (Ok x) e ok h k =
    let h' : Changes f pid v old mid (Ok w) = subst (Changes f pid v old mid) e h in
    let same : k.is.0 ≡ f h'.is.0 = some_node (sym k.is.1 ∙ page_changed pid w (Some (record { version = w; node = f h'.is.0 })) old mid h'.is.2) in
    let acts : ActsAt (PageBecomes pid (Some (record { version = x; node = g (f h'.is.0) }))) x mid new = subst (λ (n : Node). ActsAt (PageBecomes pid (Some (record { version = x; node = g n }))) x mid new) same k.is.2 in
    record {
      node = h'.is.0;
      was = h'.is.1;
      middle = w;
      last = x;
      recent = recent_two _ _ w x old mid new h'.is.2 acts;
      is = page_changed pid x _ mid new acts;
    }
twice f g pid v w old mid new q (Err o) e ok h k = cc

-- the second change finds the version that the first one gave
pub links_told : (f g : Node → Node) (pid v w : ℕ) (old mid new : Store) (q r : Result ℕ (Option ℕ)) → q ≡ Ok w → Changes f pid v old mid q → Changes g pid w mid new r → links_as f g pid v old new (is_ok r)
links_told f g pid v w old mid new q (Ok x) e h k = twice f g pid v w old mid new q (Ok x) e refl h k
links_told f g pid v w old mid new q (Err o) e h k =
    let h' : Changes f pid v old mid (Ok w) = subst (Changes f pid v old mid) e h in
    absurd (k.is.2 (k.is.1 ∙ ap (option_map (λ (p : Page). p.version)) (page_changed pid w (Some (record { version = w; node = f h'.is.0 })) old mid h'.is.2)))

-- a new page and a swap keep the group
pub opened_group : (node : Node) (pid version : ℕ) (name : Key) (expected proposed : Option ℕ) (old mid new : Store) (answer : Result (Unit {0}) (Option ℕ)) → Allocates node pid version old mid → SwapsRoot name expected proposed mid new answer → (now new).in_group ≡ (now old).in_group
opened_group node pid version name expected proposed old mid new answer h k = swaps_group name expected proposed mid new answer k ∙ ap (λ s. s.in_group) (now_allocates node pid version old mid h)

pub opened : (node : Node) (pid version : ℕ) (name : Key) (done : Unit {0}) (old mid new last : Store) (answer : Result (Unit {0}) (Option ℕ)) → answer ≡ Ok done → AreGiven old → Allocates node pid version old mid → SwapsRoot name None (Some pid) mid new answer → last ≡ after_flush new → Opens name node (Some pid) old last
opened node pid version name done old mid new last answer is given h swap e =
    let k : SwapsRoot name None (Some pid) mid new (Ok done) = subst (SwapsRoot name None (Some pid) mid new) is swap in
    let made = now_allocates node pid version old mid h in
    let swapped = now_swaps name None (Some pid) done mid new k in
    let here : now last ≡ now new = ap now e in
    record {
      is = (
        version,
        ap (λ s. s.roots name) (sym made) ∙ k.is.0,
        fresh_page old pid given h.fresh_pid,
        ap (λ s. s.roots) (here ∙ swapped) ∙ ap (λ s. put_name s.roots name (Some pid)) made,
        ap (λ s. s.pages) (here ∙ swapped) ∙ ap (λ s. s.pages) made,
      );
    }

pub not_opened : (node : Node) (pid version : ℕ) (name : Key) (present : Option ℕ) (old mid new last : Store) (answer : Result (Unit {0}) (Option ℕ)) → answer ≡ Err present → Allocates node pid version old mid → SwapsRoot name None (Some pid) mid new answer → Opens name node None old last
not_opened node pid version name present old mid new last answer is h swap =
    let k : SwapsRoot name None (Some pid) mid new (Err present) = subst (SwapsRoot name None (Some pid) mid new) is swap in
    record { is = λ e. k.is.2 (k.is.1 ∙ (ap (λ s. s.roots name) (now_allocates node pid version old mid h) ∙ e)) }
