-- The kinds of row: their numbers, and what the two halves of an argument are.
use Rattle.std.specs.Prelude.{ℕ, Bool, true, false, cond, List, Some, None, Ok, Err, codes, Option, Result, ◌==◌, nat_lt}
use Rattle.rows.specs.declared.kind.Kind.{Kind}
use Rattle.rows.specs.declared.kind.Kind.TheVariants.{Top, Flag, Code, Not, And, Or, Next, Until, Always, Eventually, In}
use Rattle.rows.specs.declared.kind.UnknownKind.{UnknownKind}
use Rattle.rows.specs.declared.kind.HalfUse.{HalfUse}
use Rattle.rows.specs.declared.kind.HalfUse.TheVariants.{Zero, FlagNumber, CodeNumber, Operand}

abbrev pub number : Kind → ℕ
number Top = 1
number Flag = 2
number Code = 3
number Not = 4
number And = 5
number Or = 6
number Next = 7
number Until = 8
number Always = 9
number Eventually = 10
number In = 11

abbrev pub word_of : Kind → List ℕ
word_of Top = codes "top"
word_of Flag = codes "flag"
word_of Code = codes "code"
word_of Not = codes "not"
word_of And = codes "and"
word_of Or = codes "or"
word_of Next = codes "next"
word_of Until = codes "until"
word_of Always = codes "always"
word_of Eventually = codes "eventually"
word_of In = codes "in"

-- the kind that has this number
abbrev pub kind_of : ℕ → Option Kind
kind_of n =
    cond (n == 1) (Some Top) (cond (n == 2) (Some Flag) (cond (n == 3) (Some Code) (cond (n == 4) (Some Not)
    (cond (n == 5) (Some And) (cond (n == 6) (Some Or) (cond (n == 7) (Some Next) (cond (n == 8) (Some Until)
    (cond (n == 9) (Some Always) (cond (n == 10) (Some Eventually) (cond (n == 11) (Some In) None))))))))))

-- what a number is read as: the kind that has it, or the error that names it
abbrev pub named : ℕ → Option Kind → Result Kind UnknownKind
named n None = Err (record { 0 = n })
named n (Some kind) = Ok kind

abbrev pub kind_read : ℕ → Result Kind UnknownKind
kind_read n = named n (kind_of n)

abbrev pub left_use : Kind → HalfUse
left_use Top = Zero
left_use Flag = FlagNumber
left_use Code = CodeNumber
left_use Not = Operand
left_use And = Operand
left_use Or = Operand
left_use Next = Operand
left_use Until = Operand
left_use Always = Operand
left_use Eventually = Operand
left_use In = Operand

abbrev pub right_use : Kind → HalfUse
right_use Top = Zero
right_use Flag = Zero
right_use Code = Zero
right_use Not = Zero
right_use And = Operand
right_use Or = Operand
right_use Next = Zero
right_use Until = Operand
right_use Always = Zero
right_use Eventually = Zero
right_use In = Operand

abbrev pub is_in : Kind → Bool
is_in Top = false
is_in Flag = false
is_in Code = false
is_in Not = false
is_in And = false
is_in Or = false
is_in Next = false
is_in Until = false
is_in Always = false
is_in Eventually = false
is_in In = true

-- the kinds of which the rows of a scope are
abbrev pub may_scope : Kind → Bool
may_scope Top = true
may_scope Flag = true
may_scope Code = false
may_scope Not = true
may_scope And = true
may_scope Or = true
may_scope Next = false
may_scope Until = false
may_scope Always = false
may_scope Eventually = false
may_scope In = false

-- a half that has to be 0 is 0
abbrev pub zero_kept : HalfUse → ℕ → Bool
zero_kept Zero half = half == 0
zero_kept FlagNumber half = true
zero_kept CodeNumber half = true
zero_kept Operand half = true

-- a flag or code number is below the number used
abbrev pub number_kept : ℕ → ℕ → HalfUse → ℕ → Bool
number_kept flags codes Zero half = true
number_kept flags codes FlagNumber half = nat_lt half flags
number_kept flags codes CodeNumber half = nat_lt half codes
number_kept flags codes Operand half = true

-- an operand is below its row
abbrev pub order_kept : ℕ → HalfUse → ℕ → Bool
order_kept row Zero half = true
order_kept row FlagNumber half = true
order_kept row CodeNumber half = true
order_kept row Operand half = nat_lt half row

-- a half names row i as an operand
abbrev pub names_row : HalfUse → ℕ → ℕ → Bool
names_row Zero half i = false
names_row FlagNumber half i = false
names_row CodeNumber half i = false
names_row Operand half i = half == i
