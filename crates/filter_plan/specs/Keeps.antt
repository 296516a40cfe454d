-- What an entry keeps, whatever its path.
use Rattle.std.specs.Prelude.{Bool, false}
use Rattle.shred_cols.specs.Probe.{same_kept}
use Rattle.shred_cols.specs.declared.entry.Entry.{Entry}
use Rattle.shred_cols.specs.declared.entry.Entry.TheVariants as e
use Rattle.shred_cols.specs.declared.forms.Kept.{Kept}

-- the entry says that the value is kept
abbrev pub keeps : Kept → Entry → Bool
keeps k (e.Has p l) = same_kept k l
keeps k (e.Exists p) = false
keeps k (e.Size p n) = false
keeps k (e.Bool p b) = false
keeps k (e.Num p n) = false
keeps k (e.Text p t) = false
keeps k (e.Date p d) = false
keeps k (e.Null p) = false
