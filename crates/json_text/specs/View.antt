-- What the code's types stand for. Only the crate's private clauses cite it.
use Rattle.json_text.specs.Token as spec
use Rattle.json_text.specs.declared.token.lex.Token.{Token}
use Rattle.json_text.specs.declared.token.lex.Token.TheVariants.{BeginObject, EndObject, BeginArray, EndArray, NameSeparator, ValueSeparator, String, Number, Boolean, Null, End, Malformed}

abbrev pub token_of : Token → spec.Token
token_of BeginObject = spec.begin_object
token_of EndObject = spec.end_object
token_of BeginArray = spec.begin_array
token_of EndArray = spec.end_array
token_of NameSeparator = spec.name_separator
token_of ValueSeparator = spec.value_separator
token_of (String s) = spec.string s
token_of (Number n) = spec.number n
token_of (Boolean b) = spec.boolean b
token_of Null = spec.null
token_of End = spec.end
token_of Malformed = spec.malformed
