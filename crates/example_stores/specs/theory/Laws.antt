-- What holds of every store that keeps a list of all that was done.
use Rattle.std.proofs.Common.{◌≡◌, ℕ, zero, suc, ◌≤◌, true, false, ◌&&◌, cond, List, [], ◌∷◌, Option, Some, None, refl, sym, ap, ◌∙◌, take, drop, arith}
use Rattle.std.proofs.lemmas.Bool.{eqb-true}
use Rattle.std.proofs.lemmas.Bool.Decides.{nat_tests}
use Rattle.std.specs.List.{list_all}
use lib.Dec.{eqb}
use Rattle.sled_nodes.proofs.Basics.{first_true, second_true}
use Rattle.sled_store.specs.declared.page.Page.{Page}
use Rattle.sled_pages.specs.Memory.{empty_store}
use Rattle.sled_store.specs.State.{State, after, after_all}
use Rattle.sled_store.specs.Store.{now, AreGiven}
use Rattle.example_stores.specs.declared.log_pages.LogPages.{LogPages}
use Rattle.example_stores.specs.declared.log_pages.Logged.{Logged}
use Rattle.example_stores.specs.declared.log_pages.Logged.TheVariants.{PageBecame, RootBecame, GroupBegan, GroupEnded}
use Rattle.example_stores.specs.Log.{actions_of, action_of, state_after, up_to, below, is_given}
use Rattle.example_stores.specs.LogStore.{store_of}

-- what is flushed and then the rest have the same result as all of it
pub parts : (flushed : ℕ) (log : List Logged) (s : State) → after_all (actions_of (drop flushed log)) (after_all (actions_of (take flushed log)) s) ≡ after_all (actions_of log) s
parts zero log s = refl
parts (suc flushed) [] s = refl
parts (suc flushed) (a ∷ log) s = parts flushed log (after (action_of a) s)

pub now_is : (m : LogPages) → now (store_of m) ≡ state_after m.log.items
now_is m = parts m.flushed m.log.items empty_store.base

-- every page has a number and a version that were given
abbrev AllGiven : ℕ → ℕ → State → Type 0
AllGiven last next s = (p : ℕ) (page : Page) → s.pages p ≡ Some page → (up_to last p && below next page.version) ≡ true

put_given : (last next pid : ℕ) (o : Option Page) (page : Page) → is_given last next (PageBecame pid o) ≡ true → o ≡ Some page → (up_to last pid && below next page.version) ≡ true
put_given last next pid None page e k = cc
put_given last next pid (Some q) page e k = ap (λ (x : Page). up_to last pid && below next x.version) (same (sym k)) ∙ e
  where
    same : Some page ≡ Some q → page ≡ q
    same d = cc

step_given : (last next : ℕ) (a : Logged) (s : State) → is_given last next a ≡ true → AllGiven last next s → AllGiven last next (after (action_of a) s)
step_given last next (PageBecame pid o) s e h = λ p page.
    elim (eqb p pid) as (λ b. eqb p pid ≡ b → cond b o (s.pages p) ≡ Some page → (up_to last p && below next page.version) ≡ true) [
      | true ↦ λ d k. ap (λ q. up_to last q && below next page.version) (eqb-true p pid d) ∙ put_given last next pid o page e k
      | false ↦ λ d k. h p page k
    ] refl
step_given last next (RootBecame name root) s e h = h
step_given last next GroupBegan s e h = h
step_given last next GroupEnded s e h = h

all_given : (last next : ℕ) (log : List Logged) (s : State) → list_all (is_given last next) log ≡ true → AllGiven last next s → AllGiven last next (after_all (actions_of log) s)
all_given last next [] s e h = h
all_given last next (a ∷ log) s e h = all_given last next log (after (action_of a) s) (second_true (is_given last next a) _ e) (step_given last next a s (first_true _ _ e) h)

none_given : (last next : ℕ) → AllGiven last next empty_store.base
none_given last next p page e = cc

pub page_given : (m : LogPages) (p : ℕ) (page : Page) → (now (store_of m)).pages p ≡ Some page → (up_to m.last_pid p && below m.next_version page.version) ≡ true
page_given m p page e =
    all_given m.last_pid m.next_version m.log.items empty_store.base m.kept.given (none_given m.last_pid m.next_version) p page (ap (λ (s : State). s.pages p) (sym (now_is m)) ∙ e)

within : (last p : ℕ) → up_to last p ≡ true → p ≤ last
within last p e = grind (arith, nat_tests)

-- each page has a number and a version that were given
pub law_given : (m : LogPages) → AreGiven (store_of m)
law_given m = record {
  pid = λ p page e. first_true _ _ (page_given m p page e);
  version = λ p page e. second_true (up_to m.last_pid p) _ (page_given m p page e);
  numbered = λ p page e. let h = within m.last_pid p (first_true _ _ (page_given m p page e)) in let k = m.kept.numbered in omega arith;
}
