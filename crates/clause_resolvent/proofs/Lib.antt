mod RaisedTerms
mod RaisedRows
mod JoinedParts
mod SamePredicate
mod AppliedTerms
mod ResolvedClause
