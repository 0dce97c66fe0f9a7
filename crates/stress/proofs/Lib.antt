mod PutBy
