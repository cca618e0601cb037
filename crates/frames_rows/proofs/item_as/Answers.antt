-- `item_as`: each arm knows its kind, and what its calls ensure.
use Rattle.frames_rows.proofs.item_as.Goals as goal

pub returns-in-Constant : goal.returns-in-Constant
returns-in-Constant c = rw (c.in-Constant.is, c.ty-ty.ensures)

pub returns-in-Override : goal.returns-in-Override
returns-in-Override c = rw (c.in-Override.is, c.ty-ty.ensures)

pub returns-in-GlobalVariable : goal.returns-in-GlobalVariable
returns-in-GlobalVariable c = rw (c.in-GlobalVariable.is, c.from-space.ensures, c.ty-ty.ensures)

pub returns-in-FunctionArgument : goal.returns-in-FunctionArgument
returns-in-FunctionArgument c = rw (c.in-FunctionArgument.is, c.ty-ty.ensures)

pub returns-in-LocalVariable : goal.returns-in-LocalVariable
returns-in-LocalVariable c = rw (c.in-LocalVariable.is, c.ty-ty.ensures)

pub returns-in-Function : goal.returns-in-Function
returns-in-Function c = rw (c.in-Function.is, c.function_result-result.ensures, c.ty-ty.ensures)

pub returns-in-RayIntersection : goal.returns-in-RayIntersection
returns-in-RayIntersection c = rw (c.in-RayIntersection.is, c.ty-ty.ensures)

pub returns-in-RayVertexReturn : goal.returns-in-RayVertexReturn
returns-in-RayVertexReturn c = rw (c.in-RayVertexReturn.is, c.ty-ty.ensures)
