mod FromFn
