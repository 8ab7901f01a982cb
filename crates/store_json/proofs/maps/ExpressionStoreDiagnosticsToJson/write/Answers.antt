use Rattle.store_json.proofs.maps.ExpressionStoreDiagnosticsToJson.write.Goals as goal

pub returns-in-InactiveCode : goal.returns-in-InactiveCode
returns-in-InactiveCode c = rw c.in-InactiveCode.is c.around_kind.ensures

pub returns-in-UnreachableLabel : goal.returns-in-UnreachableLabel
returns-in-UnreachableLabel c = rw c.in-UnreachableLabel.is c.kind_then_two.ensures

pub returns-in-UndeclaredLabel : goal.returns-in-UndeclaredLabel
returns-in-UndeclaredLabel c = rw c.in-UndeclaredLabel.is c.kind_then_two-in-UndeclaredLabel.ensures

pub returns-in-AwaitOutsideOfAsync : goal.returns-in-AwaitOutsideOfAsync
returns-in-AwaitOutsideOfAsync c = rw c.in-AwaitOutsideOfAsync.is c.kind_then_two-in-AwaitOutsideOfAsync.ensures

pub returns-in-MissingBody : goal.returns-in-MissingBody
returns-in-MissingBody c = rw c.in-MissingBody.is c.kind_then_two-in-MissingBody.ensures

pub returns-in-FruInDestructuringAssignment : goal.returns-in-FruInDestructuringAssignment
returns-in-FruInDestructuringAssignment c = rw c.in-FruInDestructuringAssignment.is c.kind_then.ensures
