-- The text of a line of a listing: `xid switch message tag port bytes`.
use Rattle.std.specs.Prelude.{ℕ, List, ◌++◌, codes, decimal}
use Rattle.messages.specs.declared.line.Kind.{Kind}
use Rattle.messages.specs.declared.line.Kind.TheVariants as kind
use Rattle.messages.specs.declared.line.Line.{Line}

abbrev pub kind_text : Kind → List ℕ
kind_text kind.Add = codes "add"
kind_text kind.Stamp = codes "stamp"
kind_text kind.Remove = codes "remove"
kind_text kind.Barrier = codes "barrier"

abbrev pub line_text : Line → List ℕ
line_text l =
    decimal l.xid ++ (codes " " ++ (decimal l.switch ++ (codes " " ++ (kind_text l.kind ++ (codes " " ++ (
    decimal l.tag ++ (codes " " ++ (decimal l.port ++ (codes " " ++ decimal l.bytes)))))))))
