-- What the run of a path answers.
use Rattle.std.proofs.Common.{◌≡◌, ℕ, true, ◌&&◌, ◌||◌, List, [], ◌∷◌, refl, sym, ap, ap₂, ◌∙◌}
use Rattle.std.specs.List.{list_any, list_all}
use Rattle.std.proofs.lemmas.Bool.{and_parts}
use Rattle.shred_cols.specs.Probe.{inside, is_kept_at, meets, same_kept}
use Rattle.shred_cols.specs.declared.entry.Entry.{Entry}
use Rattle.shred_cols.specs.declared.entry.Entry.TheVariants as e
use Rattle.shred_cols.specs.declared.forms.Kept.{Kept}
use Rattle.shred_cols.specs.declared.probe.Probe.{Probe}
use Rattle.shred_cols.specs.declared.probe.Probe.TheVariants as p
use Rattle.filter_plan.specs.Keeps.{keeps}

one_inside : (path : List ℕ) (k : Kept) (x : Entry) → is_kept_at path x ≡ true → keeps k x ≡ inside (p.Has path k) x
one_inside path k (e.Has b l) h = sym (ap (λ t. t && same_kept k l) h)
one_inside path k (e.Exists b) h = refl
one_inside path k (e.Size b n) h = refl
one_inside path k (e.Bool b x) h = refl
one_inside path k (e.Num b n) h = refl
one_inside path k (e.Text b t) h = refl
one_inside path k (e.Date b d) h = refl
one_inside path k (e.Null b) h = refl

pub run_inside : (path : List ℕ) (k : Kept) (run : List Entry) → list_all (is_kept_at path) run ≡ true → list_any (keeps k) run ≡ list_any (inside (p.Has path k)) run
run_inside path k [] h = refl
run_inside path k (x ∷ run) h =
    let t = and_parts (is_kept_at path x) (list_all (is_kept_at path) run) h in ap₂ (λ a b. a || b) (one_inside path k x t.0) (run_inside path k run t.1)

pub met_near : (path own : List ℕ) (k : Kept) (probe : Probe) (run c : List Entry) → probe ≡ p.Has own k → own ≡ path → list_all (is_kept_at path) run ≡ true
    → ((k : Kept) → list_any (inside (p.Has path k)) run ≡ meets (p.Has path k) c) → list_any (keeps k) run ≡ meets probe c
met_near path own k probe run c is e only asked =
    run_inside path k run only ∙ asked k ∙ ap (λ q. meets (p.Has q k) c) (sym e) ∙ ap (λ q. meets q c) (sym is)
