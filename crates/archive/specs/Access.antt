-- What a file holds, over its frames and where its families begin (document 01, "The file": numbers count from 0 within
-- a family). Every number is answered: where there is no such type or row, as one of unknown kind.
use Rattle.ir.specs.declared.Expression.{Expression}
use Rattle.ir.specs.declared.TypeInner.{TypeInner}
use Rattle.std.specs.Prelude.{ℕ, ◌+◌, cond, List, Option, None}
use Rattle.ir.specs.declared.TypeNumber.{TypeNumber}
use Rattle.ir.specs.declared.MemberNumber.{MemberNumber}
use Rattle.ir.specs.declared.RowNumber.{RowNumber}
use Rattle.ir.specs.declared.StructMember.{StructMember}
use Rattle.frames.specs.Bytes.{frame_at}
use Rattle.frames.specs.Forms.{type_of, member_of, row_of}
use Rattle.archive.specs.declared.Starts.{Starts}
use Rattle.archive.specs.Starts.{starts_of}
use Rattle.archive.specs.Names.{is_type, is_row}

-- type n: types begin the file
unfoldable pub type_in : List ℕ → Starts → TypeNumber → Option TypeInner
type_in fr s n = cond (is_type s n) (type_of (frame_at fr n.0)) None

-- member i of the struct whose members begin at member `first`
abbrev pub member_in : List ℕ → Starts → MemberNumber → ℕ → StructMember
member_in fr s first i = member_of (frame_at fr (s.members + first.0 + i))

-- row n
unfoldable pub row_in : List ℕ → Starts → RowNumber → Option Expression
row_in fr s n = cond (is_row s n) (row_of (frame_at fr (s.rows + n.0))) None

-- type n of a file, whose families begin where its frames say
abbrev pub type_at : List ℕ → TypeNumber → Option TypeInner
type_at fr n = type_in fr (starts_of fr) n
