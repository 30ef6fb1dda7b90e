-- What a changing call of the pages in memory made, and what was spelled beside it.
use Rattle.std.proofs.Common.{◌≡◌, true, ℕ, ◌<◌, inl, inr, List, [], ◌∷◌, ◌++◌, refl, sym, ◌∙◌, ap, subst}
use Rattle.std.specs.Prelude.{Option, Some, None, Result, Ok}
use Rattle.sled_nodes.specs.Node.{after_link}
use Rattle.sled_nodes.specs.Order.{Key}
use Rattle.sled_nodes.specs.declared.error.Error.{Error}
use Rattle.sled_nodes.specs.declared.error.Error.TheVariants as error
use Rattle.sled_nodes.specs.declared.link.Link.{Link}
use Rattle.sled_nodes.specs.declared.node.Node.{Node}
use Rattle.sled_store.specs.declared.page.Page.{Page}
use Rattle.sled_store.specs.State.{Action, PageBecomes, RootBecomes}
use Rattle.sled_store.specs.Store.{Store, now, after_action, IsRefused, is_refused_as, Frees, frees_as, Changes, ActsAt, Allocates, SwapsRoot, swaps_as, AreGiven}
use Rattle.sled_store.specs.theory.Facts.{put_here}
use Rattle.sled_bytes.specs.declared.change.Change.{Change}
use Rattle.sled_bytes.specs.declared.change.Change.TheVariants.{Given, Linked}
use Rattle.sled_bytes.specs.Spelling.{change_bytes, FitsChange}
use Rattle.sled_files.specs.Change.{linked, action_of}
use Rattle.sled_files.specs.Lasting.{Limits}
use Rattle.sled_files.specs.Stored.{AreWithin}
use Rattle.sled_files.specs.theory.Spelled.{WereGiven, IsSpelled}
use Rattle.sled_files.proofs.Numbers.{within_same, within_version, within_both}

-- no action was made, and no number given
pub record Idles (s t : Store) : Type 0 where
  pub base : t.base ≡ s.base
  pub recent : t.recent ≡ s.recent
  pub pids : t.pids ≡ s.pids
  pub versions : t.versions ≡ s.versions

pub idles_same : {s t : Store} → t ≡ s → Idles s t
idles_same is = record { base = ap (λ (k : Store). k.base) is; recent = ap (λ (k : Store). k.recent) is; pids = ap (λ (k : Store). k.pids) is; versions = ap (λ (k : Store). k.versions) is }

refused_as_idles : (e : Error) (s t : Store) → is_refused_as e s t → Idles s t
refused_as_idles error.NoMemory s t is = idles_same is
refused_as_idles (error.Io fault) s t is = record { base = ap (λ (k : Store). k.base) is; recent = ap (λ (k : Store). k.recent) is; pids = ap (λ (k : Store). k.pids) is; versions = ap (λ (k : Store). k.versions) is }
refused_as_idles other s t is = absurd is

pub idles_refused : {e : Error} {s t : Store} → IsRefused e s t → Idles s t
idles_refused {e} {s} {t} r = refused_as_idles e s t r.is

-- for want of memory, before the call
pub no_memory : {e : Error} (s : Store) → e ≡ error.NoMemory → IsRefused e s s
no_memory s is = subst (λ (x : Error). IsRefused x s s) (sym is) (record { is = refl })

-- the number of a page that is there was given, and so was the version of an action
given_act : {s t : Store} {a : Action} {version page : ℕ} {there : Page} (next : ℕ) → AreGiven s → (now s).pages page ≡ Some there → version ≡ next → ActsAt a version s t → (t.pids page ≡ true) × (t.versions next ≡ true)
given_act {s} {t} {a} {version} {page} {there} next given is same h =
    (ap (λ (k : Store). k.pids page) h.is ∙ given.pid page there is, ap t.versions (sym same) ∙ ap (λ (k : Store). k.versions version) h.is ∙ put_here s.versions version true)

module _ {s t : Store} {before after : List ℕ} where
  pub spells_none : Idles s t → after ≡ before → IsSpelled s t before after
  spells_none i same = record { is = inl (record { base = i.base; recent = i.recent; bytes = same }) }

  spells_acted : (c : Change) (a : Action) → FitsChange c → after ≡ before ++ change_bytes c → action_of c (now s) ≡ Some a → t.base ≡ s.base → t.recent ≡ s.recent ++ a ∷ [] → WereGiven t c → IsSpelled s t before after
  spells_acted c a fits bytes is base recent given = record { is = inr (record { change = c; action = a; fits = fits; is = is; base = base; recent = recent; bytes = bytes; given = given }) }

  pub spells_action : (c : Change) (a : Action) → FitsChange c → after ≡ before ++ change_bytes c → action_of c (now s) ≡ Some a → t ≡ after_action a s → WereGiven t c → IsSpelled s t before after
  spells_action c a fits bytes is acted given = spells_acted c a fits bytes is (ap (λ (k : Store). k.base) acted) (ap (λ (k : Store). k.recent) acted) given

  pub spells_act : (c : Change) (a : Action) (version : ℕ) → FitsChange c → after ≡ before ++ change_bytes c → action_of c (now s) ≡ Some a → ActsAt a version s t → WereGiven t c → IsSpelled s t before after
  spells_act c a version fits bytes is acted given = spells_acted c a fits bytes is (ap (λ (k : Store). k.base) acted.is) (ap (λ (k : Store). k.recent) acted.is) given

  pub spells_new : (node : Node) (pid version p v : ℕ) → (p ≡ pid) × (v ≡ version) → FitsChange (Given pid version node) → after ≡ before ++ change_bytes (Given pid version node) → Allocates node p v s t → IsSpelled s t before after
  spells_new node pid version p v same fits bytes h =
      spells_acted (Given pid version node) (PageBecomes p (Some (record { version = v; node = node }))) fits bytes
      (ap (λ (x : ℕ). Some (PageBecomes x (Some (record { version = version; node = node })))) (sym same.0) ∙ ap (λ (x : ℕ). Some (PageBecomes p (Some (record { version = x; node = node })))) (sym same.1))
      (ap (λ (k : Store). k.base) h.is) (ap (λ (k : Store). k.recent) h.is)
      (ap t.pids (sym same.0) ∙ ap (λ (k : Store). k.pids p) h.is ∙ put_here s.pids p true, ap t.versions (sym same.1) ∙ ap (λ (k : Store). k.versions v) h.is ∙ put_here s.versions v true)

  -- a link, and another node, at the version that was given
  pub spells_linked : (pid version next given : ℕ) (link : Link) → given ≡ next → FitsChange (Linked pid next link) → after ≡ before ++ change_bytes (Linked pid next link) → AreGiven s → Changes (after_link link) pid version s t (Ok given) → IsSpelled s t before after
  spells_linked pid version next given link same fits bytes are h =
      spells_act (Linked pid next link) (PageBecomes pid (Some (record { version = given; node = after_link link h.is.0 }))) given fits bytes
      (ap (λ (page : Option Page). Some (PageBecomes pid (linked next link page))) h.is.1 ∙ ap (λ (x : ℕ). Some (PageBecomes pid (Some (record { version = x; node = after_link link h.is.0 })))) (sym same)) h.is.2 (given_act next are h.is.1 same h.is.2)

  pub spells_replaced : (pid version next given : ℕ) (node : Node) → given ≡ next → FitsChange (Given pid next node) → after ≡ before ++ change_bytes (Given pid next node) → AreGiven s → Changes (λ _. node) pid version s t (Ok given) → IsSpelled s t before after
  spells_replaced pid version next given node same fits bytes are h =
      spells_act (Given pid next node) (PageBecomes pid (Some (record { version = given; node = node }))) given fits bytes
      (ap (λ (x : ℕ). Some (PageBecomes pid (Some (record { version = x; node = node })))) (sym same)) h.is.2 (given_act next are h.is.1 same h.is.2)

-- the bytes of a change are those with the version, or the numbers, that was given
pub adds_given : {given next : ℕ} (before after : List ℕ) (change : ℕ → Change) → given ≡ next → after ≡ before ++ change_bytes (change next) → after ≡ before ++ change_bytes (change given)
adds_given {given} {next} before after change same is = is ∙ ap (λ (x : ℕ). before ++ change_bytes (change x)) (sym same)

pub adds_new : (before after : List ℕ) (node : Node) (pid version p v : ℕ) → (p ≡ pid) × (v ≡ version) → after ≡ before ++ change_bytes (Given pid version node) → after ≡ before ++ change_bytes (Given p v node)
adds_new before after node pid version p v same is = adds_given before after (λ x. Given p x node) same.1 (adds_given before after (λ x. Given x version node) same.0 is)

module _ {limits : Limits} {s t : Store} (w : AreWithin limits s) where
  pub within_idles : Idles s t → AreWithin limits t
  within_idles i = within_same w i.pids i.versions

  pub within_acted : (a : Action) → t ≡ after_action a s → AreWithin limits t
  within_acted a is = within_same w (ap (λ (k : Store). k.pids) is) (ap (λ (k : Store). k.versions) is)

  pub within_act : {a : Action} {version : ℕ} (next : ℕ) → version ≡ next → next < limits.versions → ActsAt a version s t → AreWithin limits t
  within_act {a} {version} next same below h = within_version w version (subst (λ (x : ℕ). x < limits.versions) (sym same) below) (ap (λ (k : Store). k.pids) h.is) (ap (λ (k : Store). k.versions) h.is)

  pub within_new : {node : Node} {p v : ℕ} (pid version : ℕ) → (p ≡ pid) × (v ≡ version) → pid < limits.pids → version < limits.versions → Allocates node p v s t → AreWithin limits t
  within_new {node} {p} {v} pid version same below further h =
      within_both w p v h.positive (subst (λ (x : ℕ). x < limits.pids) (sym same.0) below) (subst (λ (x : ℕ). x < limits.versions) (sym same.1) further) (ap (λ (k : Store). k.pids) h.is) (ap (λ (k : Store). k.versions) h.is)

-- of an answer that says that it was done
pub frees_done : {pid version : ℕ} {s t : Store} {answer : Result (Unit {0}) (Option ℕ)} {done : Unit {0}} → answer ≡ Ok done → Frees pid version s t answer → t ≡ after_action (PageBecomes pid None) s
frees_done {pid} {version} {s} {t} {answer} {done} is f = (subst (λ (a : Result (Unit {0}) (Option ℕ)). frees_as pid version s t a) is f.is).1

pub swaps_done : {name : Key} {expected proposed : Option ℕ} {s t : Store} {answer : Result (Unit {0}) (Option ℕ)} {done : Unit {0}} → answer ≡ Ok done → SwapsRoot name expected proposed s t answer → t ≡ after_action (RootBecomes name proposed) s
swaps_done {name} {expected} {proposed} {s} {t} {answer} {done} is f = (subst (λ (a : Result (Unit {0}) (Option ℕ)). swaps_as name expected proposed s t a) is f.is).1

pub changes_done : {change : Node → Node} {pid version given : ℕ} {s t : Store} {answer : Result ℕ (Option ℕ)} → answer ≡ Ok given → Changes change pid version s t answer → Changes change pid version s t (Ok given)
changes_done {change} {pid} {version} {given} {s} {t} is f = subst (λ (a : Result ℕ (Option ℕ)). Changes change pid version s t a) is f
