-- The command that a request's parts make, with the content of its value.
use Rattle.std.proofs.Common.{◌≡◌, ℕ, List, Option, Some, None, refl, ap, sym, ◌∙◌, subst}
use Rattle.std.specs.Prelude.{Result, Ok, Err, IfOk}
use Rattle.std.specs.Option.{option_map, option_and_then, unwrap_or}
use Rattle.json_tree.specs.Tree.{Tree, null}
use Rattle.filter_tree.specs.View.{filter_tree}
use Rattle.view_sort.specs.declared.page.PageState.{PageState}
use Rattle.reply_env.specs.declared.request.Place.{Place}
use Rattle.cmd_grammar.specs.Commands.{CommandTree, command_tree, IsAskable, IsAskableFilter}
use Rattle.cmd_grammar.specs.Parts.{filter_of, updates_of, sort_of, shows_of, limit_of, skip_of, IsPage}
use Rattle.cmd_grammar.specs.Refused.{refused}
use Rattle.cmd_grammar.specs.Asked.{command_of, Asks, IsPlaced}
use Rattle.cmd_grammar.specs.Judged.{AreParts, IsJudged, choices_of, content_name, content_at, content_of, content_in, HasName, Spelled, spelled, made_of}
use Rattle.cmd_grammar.specs.Answers.{Passes, Answers}
use Rattle.cmd_grammar.specs.declared.parts.Parts.{Parts}
use Rattle.cmd_grammar.specs.declared.name.Name.{Name}
use Rattle.cmd_grammar.specs.declared.name.Name.TheVariants.{InsertOne, InsertMany, FindOne, Find, CountDocuments, UpdateOne, UpdateMany, DeleteOne, DeleteMany, FindOneAndUpdate, FindOneAndReplace, FindOneAndDelete, CreateCollection, FindCollections, DeleteCollection}
use Rattle.cmd_grammar.specs.declared.command.Command.{Command}
use Rattle.cmd_grammar.specs.declared.fault.CommandFault.{CommandFault}
use Rattle.cmd_grammar.specs.declared.fault.CommandFault.TheVariants.{Refused, NoMemory}
use Rattle.cmd_grammar.proofs.Asking.{askable}
use Rattle.cmd_grammar.proofs.Judging.{page_is}
use Rattle.cmd_grammar.proofs.Levels.{at_name}
use Rattle.cmd_grammar.proofs.Held.{has_new_name, has_old_name}
use Rattle.cmd_grammar.proofs.Passing.{Passed, passed}
use Rattle.cmd_grammar.proofs.Placing.{placed, is_there}

-- ---- parts

abbrev spelled_of : Option PageState → Tree → Spelled
spelled_of page t = record {
  filter = filter_of t;
  updates = updates_of t;
  sort = sort_of t;
  shows = shows_of t;
  paging = record { limit = limit_of t; skip = skip_of t; page = page };
  choices = choices_of t;
}

spelled_as : (t : Tree) (p : Parts) → AreParts t p → spelled p ≡ spelled_of p.listing.page t
spelled_as t p a = λ i. record {
  filter = a.filter i;
  updates = a.updates i;
  sort = a.listing.sort i;
  shows = a.listing.projection i;
  paging = record { limit = a.listing.limit i; skip = a.listing.skip i; page = p.listing.page };
  choices = a.choices i;
}

made_is : (name : Name) (page : Option PageState) (t : Tree) → made_of name (spelled_of page t) (content_of name t) ≡ command_of page (name, t)
made_is InsertOne page t = refl
made_is InsertMany page t = refl
made_is FindOne page t = refl
made_is Find page t = refl
made_is CountDocuments page t = refl
made_is UpdateOne page t = refl
made_is UpdateMany page t = refl
made_is DeleteOne page t = refl
made_is DeleteMany page t = refl
made_is FindOneAndUpdate page t = refl
made_is FindOneAndReplace page t = refl
made_is FindOneAndDelete page t = refl
made_is CreateCollection page t = refl
made_is FindCollections page t = refl
made_is DeleteCollection page t = refl

-- ---- the name of a collection

has_name : (keyspace : List ℕ) (place : Place) (name : Name) (t : Tree) → Passed keyspace place name t → HasName name (content_of name t)
has_name keyspace place CreateCollection t p = let n = has_new_name t p.fields in is_there _ n.value n.is_value n.is_kind
has_name keyspace place DeleteCollection t p = let n = has_old_name t p.fields in is_there _ n.value n.is_value n.is_kind
has_name keyspace place InsertOne t p = tt
has_name keyspace place InsertMany t p = tt
has_name keyspace place FindOne t p = tt
has_name keyspace place Find t p = tt
has_name keyspace place CountDocuments t p = tt
has_name keyspace place UpdateOne t p = tt
has_name keyspace place UpdateMany t p = tt
has_name keyspace place DeleteOne t p = tt
has_name keyspace place DeleteMany t p = tt
has_name keyspace place FindOneAndUpdate t p = tt
has_name keyspace place FindOneAndReplace t p = tt
has_name keyspace place FindOneAndDelete t p = tt
has_name keyspace place FindCollections t p = tt

-- ---- a request that was judged, and the content of its value

module _ (keyspace : List ℕ) (place : Place) (t : Tree) (name : Name) (p : Parts) (v : Tree) (unrefused : refused keyspace place t ≡ None) (j : IsJudged place t name p) (content : v ≡ content_in name t) where
  no_test : Passed keyspace place name j.inner
  no_test = passed keyspace place t j.inner name j.is_at unrefused

  is_content : v ≡ content_of name j.inner
  is_content = content ∙ ap (λ (o : Option Tree). unwrap_or (option_and_then (content_at (content_name name)) o) null) (at_name place.collection t j.inner name j.is_at).value

  pub named_so : HasName name v
  named_so = subst (HasName name) (sym is_content) (has_name keyspace place name j.inner no_test)

  is_command : (k : CommandTree) → k ≡ made_of name (spelled p) v → k ≡ command_of p.listing.page (name, j.inner)
  is_command k e = e ∙ ap (λ (s : Spelled). made_of name s v) (spelled_as j.inner p j.are_parts) ∙ ap (made_of name (spelled_of p.listing.page j.inner)) is_content ∙ made_is name p.listing.page j.inner

  asks : (k : CommandTree) → k ≡ made_of name (spelled p) v → Asks place t k
  asks k e = record {
    page = p.listing.page;
    is_page = subst (λ o. IsPage o p.listing.page) (page_is place t (name, j.inner) (sym j.is_at)) j.are_parts.listing.page;
    is_command = ap (option_map (command_of p.listing.page)) j.is_at ∙ ap (λ (c : CommandTree). Some c) (sym (is_command k e));
  }

  pub answers_made : (r : Result Command CommandFault) → Passes None (λ c. command_tree c ≡ made_of name (spelled p) v) r → Answers keyspace place t r
  answers_made (Ok c) h = (unrefused, asks (command_tree c) h.1)
  answers_made (Err NoMemory) h = tt
  answers_made (Err (Refused code message)) h = absurd (Prim.cc h)

  pub ready_made : (r : Result Command CommandFault) → IsAskableFilter (filter_tree p.filter) → Passes None (λ c. command_tree c ≡ made_of name (spelled p) v) r → IfOk r (λ c. IsAskable (command_tree c))
  ready_made (Ok c) f h =
      subst IsAskable (sym (is_command (command_tree c) h.1)) (askable keyspace place name j.inner p.listing.page no_test (subst IsAskableFilter j.are_parts.filter f) j.are_parts.listing.page)
  ready_made (Err fault) f h = tt

  pub placed_made : (r : Result Command CommandFault) → Passes None (λ c. command_tree c ≡ made_of name (spelled p) v) r → IfOk r (λ c. IsPlaced keyspace place (command_tree c))
  placed_made (Ok c) h = subst (IsPlaced keyspace place) (sym (is_command (command_tree c) h.1)) (placed keyspace place name j.inner p.listing.page no_test (at_name place.collection t j.inner name j.is_at).level)
  placed_made (Err fault) h = tt
