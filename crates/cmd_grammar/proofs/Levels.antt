-- A command under a path: its level, and its value as a member of the body.
use Rattle.std.proofs.Common.{◌≡◌, ℕ, Bool, true, false, List, Option, Some, None, refl, ap, sym, ◌∙◌, if◌then◌else◌}
use Rattle.std.specs.Option.{option_map, option_and_then, is_some}
use Rattle.std.specs.Str.{bytes_eq}
use Rattle.std.proofs.lemmas.Slice.Eq.{bytes_eq-Decides}
use Rattle.json_tree.specs.Tree.{Tree, null, boolean, number, text, date, list, object, no_members, member}
use Rattle.cmd_grammar.specs.Names.{command_named, command_text, commands, is_on_documents}
use Rattle.cmd_grammar.specs.Parts.{member_in}
use Rattle.cmd_grammar.specs.Refused.{at_level, command_at}
use Rattle.cmd_grammar.specs.declared.name.Name.{Name}
use Rattle.cmd_grammar.proofs.Table.{named_text}

leveled : (b : Bool) (k name : Name) (o : Option Name) → (if b then Some k else None) ≡ Some name → (b ≡ true) × (k ≡ name)
leveled true k name o e = (refl, Prim.cc e)
leveled false k name o e = absurd (Prim.cc e)

unleveled : (b : Bool) (k name : Name) → (if b then None else Some k) ≡ Some name → (b ≡ false) × (k ≡ name)
unleveled true k name e = absurd (Prim.cc e)
unleveled false k name e = (refl, Prim.cc e)

level_is : (o : Option (List ℕ)) (k name : Name) → at_level o k ≡ Some name → (k ≡ name) × (is_some o ≡ is_on_documents name)
level_is None k name e = let h = unleveled (is_on_documents k) k name e in (h.1, sym (sym (ap is_on_documents h.1) ∙ h.0))
level_is (Some c) k name e = let h = leveled (is_on_documents k) k name None e in (h.1, sym (sym (ap is_on_documents h.1) ∙ h.0))

-- a command under the path: its name, its level and its value
record Stands (o : Option (List ℕ)) (n : List ℕ) (u inner : Tree) (name : Name) : Type 0 where
  named : command_named n ≡ Some name
  level : is_some o ≡ is_on_documents name
  value : u ≡ inner

stands : (o : Option (List ℕ)) (n : List ℕ) (u inner : Tree) (name : Name) (found : Option Name) → command_named n ≡ found → option_map {U = Name × Tree} (λ (command : Name). (command, u)) (option_and_then (at_level o) found) ≡ Some (name, inner) → Stands o n u inner name
stands o n u inner name None e h = absurd (Prim.cc h)
stands o n u inner name (Some k) e h = go (at_level o k) refl h
  where
    go : (l : Option Name) → at_level o k ≡ l → option_map {U = Name × Tree} (λ (command : Name). (command, u)) l ≡ Some (name, inner) → Stands o n u inner name
    go None q h = absurd (Prim.cc h)
    go (Some m) q h =
        let pair : (m, u) ≡ (name, inner) = Prim.cc h in
        let same : m ≡ name = ap (λ (x : Name × Tree). x.0) pair in
        let l = level_is o k name (q ∙ ap (λ (x : Name). Some x) same) in
        record { named = e ∙ ap (λ (x : Name). Some x) l.0; level = l.1; value = ap (λ (x : Name × Tree). x.1) pair }

found_here : (b : Bool) (u : Tree) → b ≡ true → (if b then Some u else None) ≡ Some u
found_here true u e = refl
found_here false u e = absurd (Prim.cc e)

-- the level of the path, and the value as a member of the body
pub record IsAt (o : Option (List ℕ)) (t inner : Tree) (name : Name) : Type 0 where
  pub level : is_some o ≡ is_on_documents name
  pub value : member_in (command_text name) t ≡ Some inner

pub at_name : (o : Option (List ℕ)) (t inner : Tree) (name : Name) → command_at o t ≡ Some (name, inner) → IsAt o t inner name
at_name o (object (member n u no_members)) inner name e =
    let s = stands o n u inner name (command_named n) refl e in
    let its : command_text name ≡ n = named_text commands n name s.named in
    record { level = s.level; value = found_here (bytes_eq n (command_text name)) u ((bytes_eq-Decides n (command_text name)).1 (sym its)) ∙ ap (λ (x : Tree). Some x) s.value }
at_name o (object no_members) inner name e = absurd (Prim.cc e)
at_name o (object (member n u (member m v ms))) inner name e = absurd (Prim.cc e)
at_name o null inner name e = absurd (Prim.cc e)
at_name o (boolean b) inner name e = absurd (Prim.cc e)
at_name o (number k) inner name e = absurd (Prim.cc e)
at_name o (text s) inner name e = absurd (Prim.cc e)
at_name o (date d) inner name e = absurd (Prim.cc e)
at_name o (list ts) inner name e = absurd (Prim.cc e)
