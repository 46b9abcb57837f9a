use Rattle.scopes.proofs.scope.+holds.Given as goal

abbrev pub decreases-holds : goal.decreases-holds
decreases-holds l = l.number
