use Rattle.std.proofs.Common.{◌≡◌, ◌++◌, length}
use Rattle.std.specs.String.{string_bytes}
use Rattle.real_files.specs.PartLines.{attribute_lines}
use Rattle.real_files.proofs.parts.push_attributes.Given as goal

-- the lines so far, and those of the attributes that are left, are all
abbrev pub invariant-loop-attribute : goal.invariant-loop-attribute
invariant-loop-attribute l =
    string_bytes l.text ++ attribute_lines l.left ≡ string_bytes l.fn.text ++ attribute_lines l.fn.attributes

abbrev pub decreases-loop-attribute : goal.decreases-loop-attribute
decreases-loop-attribute l = length l.left
